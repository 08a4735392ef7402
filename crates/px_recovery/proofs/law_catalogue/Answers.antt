use Rattle.px_recovery.proofs.Births.{index_made}
use Rattle.px_recovery.proofs.Drops.{table_gone}
use Rattle.px_recovery.proofs.IndexDrops.{index_gone}
use Rattle.px_recovery.proofs.Makes.{table_made}
use Rattle.px_recovery.proofs.Readies.{index_ready}
use Rattle.px_recovery.proofs.law_catalogue.Goals as goal

pub returns : goal.returns
returns c = record { table_made = table_made; index_made = index_made; index_ready = index_ready; index_gone = index_gone; table_gone = table_gone }
