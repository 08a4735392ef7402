-- A form of a log that asks less.
use Rattle.std.specs.Prelude.{◌≡◌, true, List, None}
use Rattle.px_gatelog.specs.Format.{LogForm, LogRecord}

-- what is right under the first form is right under the second
pub record IsWeaker (form less : LogForm) : Type 0 where
  pub both : form.both ≡ less.both
  pub empty : form.empty ≡ true → less.empty ≡ true
  pub wrong : (before : List LogRecord) (r : LogRecord) → form.wrong before r ≡ None → less.wrong before r ≡ None
