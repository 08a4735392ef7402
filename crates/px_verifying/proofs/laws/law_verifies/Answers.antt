use Rattle.px_verifying.proofs.Whole.{fits-kept, starts}
use Rattle.px_verifying.proofs.laws.law_verifies.Goals as goal

pub returns : goal.returns
returns g c = record {
  starts = λ n t i v x k low may b. starts g.S.Steps.sound n t i v x k low may b;
  others = λ n t i v own done x k k' h f. fits-kept g.S.Steps.sound t i k k' h n v own done x f;
}
