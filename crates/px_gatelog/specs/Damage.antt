-- A log whose files aren't of the format.
use Rattle.std.specs.Prelude.{◌≡◌, ℕ, Bool, if◌then◌else◌, List, Err}
use Rattle.px_gatelog.specs.Format.{LogForm, segments_of}

-- the place is the first that isn't of the format
pub record IsFirstWrong (form : LogForm) (first second : ℕ) (in_first in_second : List ℕ) (file place : ℕ) : Type 0 where
  pub second_file : Bool
  pub file_is : file ≡ (if second_file then second else first)
  pub read : segments_of form in_first in_second ≡ Err (record { in_second = second_file; place = place })
