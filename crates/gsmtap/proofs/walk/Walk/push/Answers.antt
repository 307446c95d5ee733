use Rattle.gsmtap.proofs.walk.Walk.push.Goals as goal

pub returns-in-Err : goal.returns-in-Err
returns-in-Err g c given input is = record { stands = c.in-Err.ensures.fault given input is }
