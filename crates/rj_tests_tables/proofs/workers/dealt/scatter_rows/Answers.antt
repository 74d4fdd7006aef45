use Rattle.rj_tests_tables.proofs.workers.dealt.scatter_rows.Goals as goal

pub returns-clause-parts : goal.returns-clause-parts
returns-clause-parts c = c.in_ok-scattered.ensures.len
