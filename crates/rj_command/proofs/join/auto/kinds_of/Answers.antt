use Rattle.rj_command.proofs.join.auto.kinds_of.Goals as goal

pub returns-in-Off : goal.returns-in-Off
returns-in-Off c = rw c.in-Off.is c.kinds_of_text.ensures

pub returns-in-On : goal.returns-in-On
returns-in-On c = rw c.in-On.is c.kinds_of_strict_text.ensures

pub returns-in-Full : goal.returns-in-Full
returns-in-Full c = rw c.in-Full.is c.kinds_of_strict_text-in-Full.ensures
