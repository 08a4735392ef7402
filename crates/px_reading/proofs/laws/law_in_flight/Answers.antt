use Rattle.px_reading.proofs.Flight.{flight_pending, in_flight}
use Rattle.px_reading.proofs.laws.law_in_flight.Goals as goal

pub returns : goal.returns
returns c = λ b es g hs tallied place x at of d index key done. (in_flight b es g hs tallied place x at of d index key, flight_pending b es g hs tallied place x at of d index key done)
