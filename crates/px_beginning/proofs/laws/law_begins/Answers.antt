use Rattle.px_beginning.proofs.Begun.{shows, steps, tallied}
use Rattle.px_beginning.proofs.Right.{admitted}
use Rattle.px_beginning.proofs.laws.law_begins.Goals as goal

pub returns : goal.returns
returns c = record {
  tallied = tallied;
  steps = λ b es g hs e s cs may is bd p g' a index v right fit early w shown. steps b es g hs e s cs may is bd p g' a index v right fit early w shown;
  shown = λ b es g hs e s cs may is bd p g' a index v right fit early w shown. shows b es g hs e s cs may is bd p g' a index v right fit early w shown;
  right = λ g s cs bd p g' a right fit distinct some few h w. admitted c.law_keys_read.ensures.listed c.law_keys_written.ensures.marks c.law_keys_written.ensures.closes c.law_rows_written.ensures.put g s cs bd p g' a right fit distinct some few h w;
}
