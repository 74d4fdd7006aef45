use Rattle.rj_condition.proofs.Runs.{cut_word}
use Rattle.rj_settings.proofs.types.name.regular_at.Goals as goal

pub split_at-requires : goal.split_at-requires
split_at-requires c = cut_word c.as_bytes.result.now c.args.text.now c.word_len.result c.as_bytes.ensures.value c.word_len.ensures c.utf8.text
