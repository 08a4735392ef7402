mod Ready
mod Computed
