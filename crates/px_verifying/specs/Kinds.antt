-- Which parts a verification has.
use Rattle.std.specs.Prelude.{◌≡◌, Bool, true, false, None}
use Rattle.std.specs.Option.{is_some}
use Rattle.px_verifying.specs.declared.answer.Reports.{Reports}
use Rattle.px_verifying.specs.declared.answer.VerifyKind.{VerifyKind}
use Rattle.px_verifying.specs.declared.answer.VerifyKind.TheVariants as kind

-- 1. The parts of a kind, in order

abbrev pub reports_first : VerifyKind → Bool
reports_first kind.Only = true
reports_first kind.Before = true
reports_first kind.Both = true
reports_first v = false

abbrev pub rebuilds : VerifyKind → Bool
rebuilds kind.Only = false
rebuilds v = true

abbrev pub reports_last : VerifyKind → Bool
reports_last kind.After = true
reports_last kind.Both = true
reports_last v = false

-- 2. Which of them are finished

-- none is, and a report comes first
pub record IsAtFirst (v : VerifyKind) (x : Reports) : Type 0 where
  pub has : reports_first v ≡ true
  pub before : x.before ≡ None
  pub rebuilt : x.rebuilt ≡ None
  pub after : x.after ≡ None

-- the report that comes first is, if there is one, and the rebuilding comes next
pub record IsAtRebuilding (v : VerifyKind) (x : Reports) : Type 0 where
  pub has : rebuilds v ≡ true
  pub before : is_some x.before ≡ reports_first v
  pub rebuilt : x.rebuilt ≡ None
  pub after : x.after ≡ None

-- the rebuilding is, and a report comes next
pub record IsAtLast (v : VerifyKind) (x : Reports) : Type 0 where
  pub has : reports_last v ≡ true
  pub before : is_some x.before ≡ reports_first v
  pub rebuilt : is_some x.rebuilt ≡ true
  pub after : x.after ≡ None

-- all parts of the kind are, and no others
pub record IsWhole (v : VerifyKind) (x : Reports) : Type 0 where
  pub before : is_some x.before ≡ reports_first v
  pub rebuilt : is_some x.rebuilt ≡ rebuilds v
  pub after : is_some x.after ≡ reports_last v
