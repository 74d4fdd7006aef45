use Rattle.std.proofs.Common.{◌≡◌, ◌<◌, ◌^◌, Bor, List, Option, arith, inl, inr, length, map, subst}
use Rattle.clap.specs.Words.{Text, first_value, found_of}
use Rattle.merges.specs.Lines.{IsMergeLine, IsMergeLineBy, IsMergeParse, IsValueFailure, files_of, word_of}
use Rattle.merges.specs.declared.line.Line.{Line}
use Rattle.clap.specs.declared.parser.matches.ArgMatches.{ArgMatches}
use Rattle.rj_line.specs.Line.{texts_found}
use Rattle.std.specs.Prelude.{codes}
use Rattle.merges.proofs.LineFacts.{copies-length, count-Decides, names-length}
use Rattle.merges.proofs.merging.merge_words.Goals as goal

-- what holds of the values that a parse found holds of those that the words give
by_words : (P : (Text → Option Text) → List Text → Type 0) (words : List Text) (m : ArgMatches) (parse : IsMergeParse words m)
    → P (first_value (found_of m)) (texts_found (found_of m) (codes "files")) → P (word_of parse.order_words words) (files_of parse.order_words words)
by_words P words m parse holds =
    let values : first_value (found_of m) ≡ word_of parse.order_words words = λ i name. parse.values name i in
    subst (P (word_of parse.order_words words)) parse.files (subst (λ w. P w (texts_found (found_of m) (codes "files"))) values holds)

line_read : (words : List Text) (m : ArgMatches) (line : Line) (parse : IsMergeParse words m)
    → IsMergeLineBy (first_value (found_of m)) (texts_found (found_of m) (codes "files")) line → IsMergeLine words line
line_read words m line parse says = record {
  order_words = parse.order_words;
  accepted = parse.accepted;
  values = by_words (λ word files. IsMergeLineBy word files line) words m parse says;
}

pub returns-in-Err-clause-failure : goal.returns-in-Err-clause-failure
returns-in-Err-clause-failure g c = inl (inl c.in-Err.ensures.failure)

pub returns-in-Err-line_of-clause-failure : goal.returns-in-Err-line_of-clause-failure
returns-in-Err-line_of-clause-failure g c =
    let words : List Text = map (λ (w : Bor Text). w.now) c.args.words.now in
    let parse = c.in-Ok.ensures.parse in
    inl (inr (
      parse.order_words,
      parse.accepted,
      by_words (λ word files. IsValueFailure word files c.in-Err-line_of.failure) words c.in-Ok.matches parse c.in-Err-line_of.ensures.failure,
    ))

pub returns-in-Ok-merge_line-clause-merge : goal.returns-in-Ok-merge_line-clause-merge
returns-in-Ok-merge_line-clause-merge g c =
    let words : List Text = map (λ (w : Bor Text). w.now) c.args.words.now in
    record {
      line = c.in-Ok-line_of.line;
      read = line_read words c.in-Ok.matches c.in-Ok-line_of.line c.in-Ok.ensures.parse c.in-Ok-line_of.ensures.line;
      merge = c.in-Ok-merge_line.ensures.merge;
      sound = c.in-Ok-merge_line.ensures.sound;
    }

pub returns-clause-failure : goal.returns-clause-failure
returns-clause-failure g c =
    let words : List Text = map (λ (w : Bor Text). w.now) c.args.words.now in
    inr (record {
      line = c.in-Ok-line_of.line;
      read = line_read words c.in-Ok.matches c.in-Ok-line_of.line c.in-Ok.ensures.parse c.in-Ok-line_of.ensures.line;
      refusal = c.in-Err-merge_line.ensures.refusal;
    })

pub returns-in-Ok-merge_line-clause-unchanged : goal.returns-in-Ok-merge_line-clause-unchanged
returns-in-Ok-merge_line-clause-unchanged g c none =
    let words : List Text = map (λ (w : Bor Text). w.now) c.args.words.now in
    absurd (none c.in-Ok-line_of.line (line_read words c.in-Ok.matches c.in-Ok-line_of.line c.in-Ok.ensures.parse c.in-Ok-line_of.ensures.line))

pub returns-clause-unchanged : goal.returns-clause-unchanged
returns-clause-unchanged g c none =
    let words : List Text = map (λ (w : Bor Text). w.now) c.args.words.now in
    absurd (none c.in-Ok-line_of.line (line_read words c.in-Ok.matches c.in-Ok-line_of.line c.in-Ok.ensures.parse c.in-Ok-line_of.ensures.line))

pub merge_line-requires-clause-some : goal.merge_line-requires-clause-some
merge_line-requires-clause-some g c =
    let files : List Text = texts_found (found_of c.in-Ok.matches) (codes "files") in
    let says = c.in-Ok-line_of.ensures.line in
    let same : length c.in-Ok-line_of.line.files.items ≡ length files = names-length c.in-Ok-line_of.line.files.items files says.files in
    let counted : (0 < length files) × (length files < 2 ^ 32) = (count-Decides (length files)).0 says.count in
    omega (arith, same, counted.0)

pub merge_line-requires-clause-few : goal.merge_line-requires-clause-few
merge_line-requires-clause-few g c =
    let files : List Text = texts_found (found_of c.in-Ok.matches) (codes "files") in
    let says = c.in-Ok-line_of.ensures.line in
    let same : length c.in-Ok-line_of.line.files.items ≡ length files = names-length c.in-Ok-line_of.line.files.items files says.files in
    let counted : (0 < length files) × (length files < 2 ^ 32) = (count-Decides (length files)).0 says.count in
    omega (arith, same, counted.1)

pub merge_line-requires-clause-copies : goal.merge_line-requires-clause-copies
merge_line-requires-clause-copies g c =
    let files : List Text = texts_found (found_of c.in-Ok.matches) (codes "files") in
    let says = c.in-Ok-line_of.ensures.line in
    let same : length c.in-Ok-line_of.line.files.items ≡ length files = names-length c.in-Ok-line_of.line.files.items files says.files in
    let copied : length c.in-Ok-line_of.line.copies.items ≡ length files =
    copies-length (first_value (found_of c.in-Ok.matches) (codes "copies")) (length files) c.in-Ok-line_of.line.copies.items says.copies in
    omega (arith, same, copied)
