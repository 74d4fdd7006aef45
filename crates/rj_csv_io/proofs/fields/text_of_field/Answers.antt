use Rattle.std.proofs.lemmas.Str.{IsUtf8-from_ascii}
use Rattle.rj_csv_io.proofs.fields.text_of_field.Goals as goal

pub from_utf8_unchecked-requires : goal.from_utf8_unchecked-requires
from_utf8_unchecked-requires c = IsUtf8-from_ascii c.args.field.now c.if-is_ascii.ensures.cases
