use Rattle.px_batching.proofs.May.{in_phase, stamp_is, waits, writable}
use Rattle.px_batching.proofs.laws.law_may.Goals as goal

pub returns : goal.returns
returns c = record {
  stamp = λ g m b es hs k x at. stamp_is b es g hs k m x at;
  phase = λ g m b es hs k p a seat mine. in_phase b es g hs k m p a seat mine;
  writable = λ g m r b es legal hs k a free seat mine. writable b es g hs k m r a legal free seat mine;
  waits = λ g m r b es hs k a s o. waits b es g hs k m r a s o;
}
