-- The first line of a text, and a byte order mark, in a text that continues.
use Rattle.std.proofs.Common.{◌≡◌, ◌≢◌, ◌∙◌, ◌≤◌, ◌+◌, ◌-◌, ◌++◌, ◌∷◌, ℕ, List, [], length, take, drop, Bool, true, false, Option, Some, None, refl, sym, ap, subst, arith, not}
use Rattle.std.specs.Prelude.{if◌then◌else◌}
use Rattle.std.specs.Io.KnownBytes.{Consumes, IsAtEnd}
use Rattle.std.proofs.lemmas.List.{append-nil, length-append, length-take-le, take-append-le}
use Rattle.std.proofs.Math.Seq.{take-length}
use Rattle.std.proofs.lemmas.Bool.{false≢true}
use Rattle.csv.specs.Reading.{is_bom, records, strip_bom}
use Rattle.rj_csv_io.specs.StrictReading.{config_of}
use Rattle.rj_csv_io.proofs.MarkedParts.{body-short, body-start}
use Rattle.rj_csv_io.specs.declared.strict.header.HeaderPlace.TheVariants.{First}
use Rattle.rj_csv_io.specs.Pieces.{names_in}
use Rattle.rj_csv_io.specs.declared.pieces.Header.{Header}
use Rattle.rj_csv_io.specs.declared.refused.ReadRefused.{ReadRefused}
use Rattle.rj_csv_io.specs.declared.refused.ReadRefused.TheVariants as read
use Rattle.rj_line.specs.Faults.{read_fault}
use Rattle.rj_line.specs.declared.fault.Fault.{Fault}
use Rattle.rj_line.specs.declared.fault.Side.{Side}
use Rattle.rj_line.specs.declared.request.Strictness.{Strictness}
use Rattle.shards.specs.Heads.{Continues, IsFirstLine, IsFirstRecord, IsHeadFault, IsTold, mark_length}

if-append : (b : Bool) (x y more : List ℕ) → (if b then x ++ more else y ++ more) ≡ (if b then x else y) ++ more
if-append true x y more = refl
if-append false x y more = refl

-- the mark of a text that continues is that of its bytes
pub strip-more : (is_whole : Bool) (bytes more : List ℕ) → Continues is_whole bytes more → strip_bom (bytes ++ more) ≡ strip_bom bytes ++ more
unfolding strip_bom
strip-more true bytes more empty =
    ap (λ x. strip_bom (bytes ++ x)) empty ∙ (ap strip_bom (append-nil bytes) ∙ (sym (append-nil (strip_bom bytes)) ∙ ap (λ x. strip_bom bytes ++ x) (sym empty)))
strip-more false [] more long = absurd (omega arith)
strip-more false (a ∷ []) more long = absurd (omega arith)
strip-more false (a ∷ b ∷ []) more long = absurd (omega arith)
strip-more false (a ∷ b ∷ c ∷ rest) more long = if-append (is_bom a b c) rest (a ∷ b ∷ c ∷ rest) more

pub mark-more : (is_whole : Bool) (bytes more : List ℕ) → Continues is_whole bytes more → mark_length (bytes ++ more) ≡ length bytes - length (strip_bom bytes)
mark-more is_whole bytes more continues =
    let stripped = ap length (strip-more is_whole bytes more continues) in
    omega (arith, stripped, length-append (strip_bom bytes) more, length-append bytes more)

-- the first line of a text that continues, with the mark before it
pub line-of : (is_whole : Bool) (bytes more : List ℕ) (n : ℕ) → Continues is_whole bytes more → n ≤ length (strip_bom bytes)
    → strip_bom (take (length bytes - length (strip_bom bytes) + n) bytes) ≡ take n (strip_bom (bytes ++ more))
line-of is_whole bytes more n continues within =
    body-start First bytes n within ∙ sym (ap (take n) (strip-more is_whole bytes more continues) ∙ take-append-le n (strip_bom bytes) more within)

-- the text of a device from which bytes were taken, if it tells any
pub told-text : (tells left : Option (List ℕ)) (bytes : List ℕ) → Consumes tells left bytes
    → (more : List ℕ) × IsTold tells (bytes ++ more) × (IsAtEnd left → more ≡ [])
told-text None left bytes taken = ([], tt, λ end. refl)
told-text (Some text) None bytes taken = absurd taken
told-text (Some text) (Some left) bytes taken = (left, taken, λ end. end)

-- bytes that are whole have no more behind them
pub whole-end : (is_whole : Bool) (bytes more : List ℕ) → is_whole ≡ true → Continues is_whole bytes more → more ≡ []
whole-end true bytes more is continues = continues
whole-end false bytes more is continues = absurd (false≢true is)

-- a text's records are those of its first bytes and those behind them
abbrev pub Splits : ℕ → List ℕ → List ℕ → ℕ → Type 0
Splits d text more end = (behind : List (List (List ℕ))) × (records (config_of d) (text ++ more) ≡ records (config_of d) (take end text) ++ behind)

pub whole-splits : (d : ℕ) (text more : List ℕ) (end : ℕ) → end ≡ length text → more ≡ [] → Splits d text more end
whole-splits d text more end is empty =
    let same : text ++ more ≡ take end text = ap (λ x. text ++ x) empty ∙ (append-nil text ∙ sym (ap (λ n. take n text) is ∙ take-length text)) in
    ([], ap (records (config_of d)) same ∙ sym (append-nil (records (config_of d) (take end text))))

pub cut-splits : (d : ℕ) (text more : List ℕ) (end cut : ℕ) → end ≡ cut
    → records (config_of d) (text ++ more) ≡ records (config_of d) (take cut text) ++ records (config_of d) (drop cut text ++ more) → Splits d text more end
cut-splits d text more end cut is split =
    let behind = records (config_of d) (drop cut text ++ more) in
    (behind, split ∙ ap (λ n. records (config_of d) (take n text) ++ behind) (sym is))

-- the header of the first bytes is that of the text that continues
pub first-record : (is_whole : Bool) (d : ℕ) (bytes more text : List ℕ) (end : ℕ) (h : Header) (begin : ℕ) (rest : List (List (List ℕ))) → text ≡ strip_bom bytes
    → Continues is_whole bytes more → records (config_of d) (take end text) ≡ names_in h ∷ rest → Splits d text more end → begin ≡ length bytes - length text
    → IsFirstRecord d (bytes ++ more) (record { header = h; begin = begin })
first-record is_whole d bytes more text end h begin rest is continues named splits from =
    let text-more : strip_bom (bytes ++ more) ≡ text ++ more = strip-more is_whole bytes more continues ∙ ap (λ t. t ++ more) (sym is) in
    record {
      rest = rest ++ splits.0;
      names = ap (records (config_of d)) text-more ∙ (splits.1 ∙ ap (λ r. r ++ splits.0) named);
      begin = from ∙ (ap (λ t. length bytes - length t) is ∙ sym (mark-more is_whole bytes more continues));
    }

-- the first line of a text that continues, behind its mark
pub line-more : (is_whole : Bool) (bytes more text : List ℕ) (n : ℕ) → text ≡ strip_bom bytes → Continues is_whole bytes more → IsFirstLine (text ++ more) n
    → IsFirstLine (strip_bom (bytes ++ more)) n
line-more is_whole bytes more text n is continues first =
    let text-more : text ++ more ≡ strip_bom (bytes ++ more) = ap (λ t. t ++ more) is ∙ sym (strip-more is_whole bytes more continues) in
    subst (λ t. IsFirstLine t n) text-more first

-- some text of a device, that which it tells if it tells any
pub some-text : (tells : Option (List ℕ)) → (text : List ℕ) × IsTold tells text
some-text None = ([], tt)
some-text (Some text) = (text, refl)

-- the first line of bytes, with the mark before it, is that of the text that continues
pub line-is : (is_whole : Bool) (bytes more text : List ℕ) (end n : ℕ) → text ≡ strip_bom bytes → Continues is_whole bytes more → n ≤ length text
    → end ≡ length bytes - length text + n → strip_bom (take end bytes) ≡ take n (strip_bom (bytes ++ more))
line-is is_whole bytes more text end n is continues within ends =
    let size = ap length is in
    let same : end ≡ length bytes - length (strip_bom bytes) + n = omega (arith, size, ends) in
    ap (λ k. strip_bom (take k bytes)) same ∙ line-of is_whole bytes more n continues (omega (arith, size, within))

-- where the first line ends, counted with the mark
pub begin-is : (is_whole : Bool) (bytes more text : List ℕ) (end n : ℕ) → text ≡ strip_bom bytes → Continues is_whole bytes more → n ≤ length text
    → end ≡ length bytes - length text + n → length (take end bytes) ≡ mark_length (bytes ++ more) + n
begin-is is_whole bytes more text end n is continues within ends =
    let size = ap length is in
    let short = body-short First bytes in
    let mark = mark-more is_whole bytes more continues in
    length-take-le end bytes (omega (arith, size, short, within, ends)) ∙ omega (arith, size, ends, mark)

-- what continues bytes that are whole, or are more than a mark
pub continues-by : (is_whole : Bool) (bytes more : List ℕ) → (is_whole ≡ true → more ≡ []) → (is_whole ≡ false → 3 ≤ length bytes) → Continues is_whole bytes more
continues-by true bytes more whole part = whole refl
continues-by false bytes more whole part = part refl

-- a device that failed has no header to tell, nor has a want of memory
pub unread : (how : Strictness) (d : ℕ) (s : Side) (text : List ℕ) (e : ReadRefused) (f : Fault) → (e ≢ read.Memory → e ≡ read.ReadDevice) → f ≡ read_fault s e
    → IsHeadFault how d s text f
unread how d s text e f why is not other = absurd (other (is ∙ ap (read_fault s) (why (λ memory. not (is ∙ ap (read_fault s) memory)))))
