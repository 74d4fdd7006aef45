use Rattle.rj_condition.proofs.Integers.{cut_number}
use Rattle.rj_condition.proofs.lexer.number.Goals as goal

pub split_at-requires : goal.split_at-requires
split_at-requires c = cut_number c.as_bytes.result.now c.args.text.now c.number_len.result c.as_bytes.ensures.value c.number_len.ensures c.utf8.text
