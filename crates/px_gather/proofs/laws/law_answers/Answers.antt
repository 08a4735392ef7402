use Rattle.px_gather.proofs.Answering as answering
use Rattle.px_gather.proofs.laws.law_answers.Goals as goal

pub returns-clause-ended : goal.returns-clause-ended
returns-clause-ended c f es scn first last rows h legal e begin end = answering.answer-is f es scn first last rows h legal e begin end

pub returns-clause-stays : goal.returns-clause-stays
returns-clause-stays c b es more q found by p rows legal low drawn h = answering.exact-stays b es more q found by p rows legal low drawn h
