use Rattle.px_history.proofs.Histories.{history-tied}
use Rattle.px_history.proofs.Stays.{change-stays, history-snoc}
use Rattle.px_history.proofs.law_history.Goals as goal

pub returns-clause-tied : goal.returns-clause-tied
returns-clause-tied c b t r sound es legal = history-tied b t r sound es legal

pub returns-clause-states : goal.returns-clause-states
returns-clause-states c b t r sound es legal p = (history-tied b t r sound es legal).states p

pub returns-clause-step : goal.returns-clause-step
returns-clause-step c b es e t r same = history-snoc b es e t r same

pub returns-clause-stays : goal.returns-clause-stays
returns-clause-stays c b es e t r s same later = change-stays b es e t r s same later
