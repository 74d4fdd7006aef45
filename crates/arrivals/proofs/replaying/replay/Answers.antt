use Rattle.arrivals.proofs.replaying.replay.Goals as goal

pub returns-in-Err-Memory-clause-unread : goal.returns-in-Err-Memory-clause-unread
returns-in-Err-Memory-clause-unread g c none = absurd (none c.in-Ok.line c.in-Ok.ensures.line)

pub returns-in-Err-read_all-clause-unread : goal.returns-in-Err-read_all-clause-unread
returns-in-Err-read_all-clause-unread g c none = absurd (none c.in-Ok.line c.in-Ok.ensures.line)

pub returns-in-Ok-arrivals-clause-unread : goal.returns-in-Ok-arrivals-clause-unread
returns-in-Ok-arrivals-clause-unread g c none = absurd (none c.in-Ok.line c.in-Ok.ensures.line)

pub returns-in-Err-Memory-arrivals-clause-unread : goal.returns-in-Err-Memory-arrivals-clause-unread
returns-in-Err-Memory-arrivals-clause-unread g c none = absurd (none c.in-Ok.line c.in-Ok.ensures.line)

pub returns-clause-unread : goal.returns-clause-unread
returns-clause-unread g c none = absurd (none c.in-Ok.line c.in-Ok.ensures.line)
