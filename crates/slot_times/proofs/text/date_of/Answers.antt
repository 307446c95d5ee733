use Rattle.slot_times.proofs.CalendarLaws.{date-is}
use Rattle.slot_times.proofs.text.date_of.Goals as goal

pub returns-clause-year : goal.returns-clause-year
returns-clause-year c = (date-is c.from_days_since_min.result c.args.day c.from_days_since_min.ensures).0

pub returns-clause-month : goal.returns-clause-month
returns-clause-month c = (date-is c.from_days_since_min.result c.args.day c.from_days_since_min.ensures).1

pub returns-clause-day : goal.returns-clause-day
returns-clause-day c = (date-is c.from_days_since_min.result c.args.day c.from_days_since_min.ensures).2
