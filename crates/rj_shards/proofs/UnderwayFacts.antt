-- Divisions that go on.
use Rattle.std.proofs.Common.{◌≡◌, ◌∙◌, ◌<◌, ◌≤◌, ◌+◌, ◌⊎◌, inl, inr, ℕ, List, [], ◌++◌, Option, Some, Bool, true, false, refl, sym, ap, subst, arith, append_assoc, length, take, drop}
use Rattle.std.specs.Prelude.{◌-◌, ◌||◌, not, slice_index_or}
use Rattle.std.specs.Io.KnownBytes.{Consumes, IsAtEnd}
use Rattle.std.proofs.lemmas.List.{append-nil, drop_all, get_or-take, length-append, length-take-le, take_all}
use Rattle.csv.specs.Reading.{records}
use Rattle.csv.specs.declared.parser.State.TheVariants as st
use Rattle.rj_columns.specs.Contents.{Content}
use Rattle.rj_csv_io.specs.Cuts.{state_after}
use Rattle.rj_csv_io.specs.Pieces.{AreRows, IsLineEnd, piece_records}
use Rattle.rj_csv_io.specs.Grammar.{Derives, may_delimit}
use Rattle.rj_csv_io.specs.StrictReading.{config_of}
use Rattle.rj_csv_io.specs.declared.strict.header.HeaderPlace.TheVariants.{Above}
use Rattle.rj_csv_io.specs.declared.strict.fault.StrictFault.{StrictFault}
use Rattle.rj_shards.specs.declared.division.reading.Reading.{Reading}
use Rattle.rj_shards.specs.declared.division.reading.Reading.TheVariants as reading
use Rattle.rj_shards.specs.declared.division.whole.Rest.{Rest}
use Rattle.rj_shards.specs.declared.division.refused.DivideRefused.{DivideRefused}
use Rattle.rj_shards.specs.declared.division.refused.DivideRefused.TheVariants as refused
use Rattle.rj_shards.specs.Divisions.{Dividing, IsDivided, after_rows}
use Rattle.rj_shards.specs.Ranges.{IsPiece, IsReadFor}
use Rattle.rj_shards.specs.Readings.{IsFaultBehind}
use Rattle.rj_shards.specs.Texts.{AreRecordsOf, BeginIn, HaveFirstRows, IsBroken, IsDivisionFault, IsPieceFault, IsTextDivided, StandIn, reading_of_piece, with_flag}
use Rattle.rj_shards.specs.Internal.Underway.{AreBehind, Beginning, IsUnderway, ReadsOn, behind_header}
use Rattle.rj_shards.proofs.BrokenFacts.{EndsWell, Reads}
use Rattle.rj_shards.proofs.DivisionFacts.{divided-more, divided-none, part-more}
use Rattle.rj_shards.proofs.FirstFacts.{begin-done, first-divided}
use Rattle.rj_shards.proofs.LenientFacts.{header-prefix, piece-as, piece-split}
use Rattle.rj_shards.proofs.ReadingFacts.{first-behind, rows-many}
use Rattle.rj_shards.proofs.StrictFacts.{begin-in, begin-part, below, broken-in, full-block, last-block, lines-on, records-below, records-on, whole-on}
use Rattle.rj_shards.proofs.TakenFacts.{Told, none-more, order-cut, piece-read, taken-more, taken-none, told-now}

abbrev Records : Type 0
Records = List (List (List ℕ))

-- nothing is taken yet
behind-none : (d names : ℕ) (how : Reading) (text all : List ℕ) → all ≡ text → AreBehind d names how text [] [] how all
behind-none d names (reading.Lenient is_first) text all e = ap (piece_records d is_first) (sym e)
behind-none d names (reading.Strict full) text all e = (refl, [], record { spelled = refl; lines = refl; rest = refl }, refl)

-- how a piece is read, with its own flag
flag-of : (d names : ℕ) (how was : Reading) (last : Bool) (text taken : List ℕ) (done : Records) (left : List ℕ) → AreBehind d names how text taken done was left
    → (flag : Bool) × (reading_of_piece was last ≡ with_flag how flag)
flag-of d names (reading.Lenient f) (reading.Lenient a) last text taken done left b = (a, refl)
flag-of d names (reading.Strict f) (reading.Strict s) last text taken done left b = (s || not last, refl)
flag-of d names (reading.Lenient f) (reading.Strict s) last text taken done left b = absurd b
flag-of d names (reading.Strict f) (reading.Lenient a) last text taken done left b = absurd b

-- a piece of a text behind what was divided, and what is left behind the piece
module _ (d : Dividing) (text taken old bytes left : List ℕ) (end : ℕ) (done : Records) (same : old ≡ bytes ++ left) (cut : text ≡ taken ++ (take end bytes ++ (drop end bytes ++ left)))
    (split : records (config_of d.delimiter) (bytes ++ left) ≡ records (config_of d.delimiter) (take end bytes) ++ records (config_of d.delimiter) (drop end bytes ++ left)) where
  abbrev D : ℕ
  D = d.delimiter

  abbrev N : ℕ
  N = length d.types

  abbrev piece : List ℕ
  piece = take end bytes

  abbrev tail : List ℕ
  tail = drop end bytes ++ left

  -- one piece more
  behind-on : (how was next : Reading) → AreBehind D N how text taken done was old → ReadsOn D was piece next → (records : Records) → AreRecordsOf D N (reading_of_piece was false) piece records
      → AreBehind D N how text (taken ++ piece) (done ++ records) next tail
  behind-on (reading.Lenient f) (reading.Lenient a) (reading.Lenient n) b on records is =
      b ∙ (ap (λ (l : List ℕ). done ++ piece_records D a l) same
      ∙ (ap (λ (x : Records). done ++ x) (piece-split D a n bytes left end split on)
      ∙ (ap (λ (x : Records). done ++ (x ++ piece_records D n tail)) (sym is) ∙ sym (append_assoc done records (piece_records D n tail)))))
  behind-on (reading.Strict f) (reading.Strict s) (reading.Strict n) b on records is =
      let derived = subst (λ (w : Bool). Derives D (Above N) w piece is.0) (full-block s) is.1 in (
        b.0 ∙ on,
        b.1 ++ is.0.lines,
        lines-on d text taken piece tail b.1 cut b.2 is.0 derived,
        (λ i. b.3 i ++ is.2 i) ∙ records-on d text taken piece tail b.1 cut b.2 is.0 derived,
      )
  behind-on (reading.Lenient f) (reading.Lenient a) (reading.Strict n) b on records is = absurd on
  behind-on (reading.Strict f) (reading.Strict s) (reading.Lenient n) b on records is = absurd on
  behind-on (reading.Lenient f) (reading.Strict s) next b on records is = absurd b
  behind-on (reading.Strict f) (reading.Lenient a) next b on records is = absurd b

  -- the last piece
  all-on : (how was : Reading) → AreBehind D N how text taken done was old → tail ≡ [] → bytes ++ left ≡ piece → (records : Records) → AreRecordsOf D N (reading_of_piece was true) piece records
      → AreRecordsOf D N how text (done ++ records)
  all-on (reading.Lenient f) (reading.Lenient a) b none whole records is =
      ap (λ (x : Records). done ++ x) (is ∙ ap (piece_records D a) (sym (same ∙ whole))) ∙ sym b
  all-on (reading.Strict f) (reading.Strict s) b none whole records is =
      let derived = subst (λ (w : Bool). Derives D (Above N) w piece is.0) (last-block s ∙ sym b.0) is.1 in
      (below b.1 is.0, whole-on d text taken piece tail b.1 cut b.2 f is.0 none derived, (λ i. b.3 i ++ is.2 i) ∙ records-below b.1 is.0)
  all-on (reading.Lenient f) (reading.Strict s) b none whole records is = absurd b
  all-on (reading.Strict f) (reading.Lenient a) b none whole records is = absurd b

  -- a piece ends with the text, or where a record does, behind a line feed
  abbrev pub Stops : Bool → Type 0
  Stops last = ((tail ≡ []) × (last ≡ true)) ⊎ ((slice_index_or piece (length piece - 1) 0 ≡ 10) × (state_after D st.StartRecord piece ≡ st.StartRecord) × (last ≡ false))

  ends-well : (f s last : Bool) → f ≡ s → Stops last → EndsWell D f (s || not last) piece tail
  ends-well f s last e (inl h) = inl (h.0, ap (λ (l : Bool). s || not l) h.1 ∙ (last-block s ∙ sym e))
  ends-well f s last e (inr h) = inr (h.0, h.1, ap (λ (l : Bool). s || not l) h.2 ∙ full-block s)

  -- the records of a piece that is not divided
  begin-on : (how was : Reading) (last : Bool) → AreBehind D N how text taken done was old → Stops last → (xs : Records) → StandIn D N (reading_of_piece was last) piece xs → BeginIn D N how text (done ++ xs)
  begin-on (reading.Lenient f) (reading.Lenient a) last b stops xs is =
      let more = header-prefix a (records (config_of D) piece) (records (config_of D) tail) in (
        more.0,
        b ∙ (ap (λ (l : List ℕ). done ++ piece_records D a l) same
            ∙ (ap (λ (x : Records). done ++ x) (piece-as D a (bytes ++ left) ∙ (ap (behind_header a) split ∙ (more.1 ∙ ap (λ (l : Records). l ++ more.0) (sym (is ∙ piece-as D a piece)))))
            ∙ sym (append_assoc done xs more.0))),
      )
  begin-on (reading.Strict f) (reading.Strict s) last b stops xs is =
      subst (λ (x : Records). BeginIn D N (reading.Strict f) text (x ++ xs)) (sym b.3)
      (begin-in d text taken piece tail b.1 cut b.2 f (s || not last) (ends-well f s last b.0 stops) xs is)
  begin-on (reading.Lenient f) (reading.Strict s) last b stops xs is = absurd b
  begin-on (reading.Strict f) (reading.Lenient a) last b stops xs is = absurd b

  -- the first records of a piece
  first-on : (how was : Reading) (last : Bool) → AreBehind D N how text taken done was old → Stops last → (xs : Records) → BeginIn D N (reading_of_piece was last) piece xs → BeginIn D N how text (done ++ xs)
  first-on (reading.Lenient f) (reading.Lenient a) last b stops xs is =
      let more = header-prefix a (records (config_of D) piece) (records (config_of D) tail) in
      let here : behind_header a (records (config_of D) piece) ≡ xs ++ is.0 = sym (piece-as D a piece) ∙ is.1 in (
        is.0 ++ more.0,
        b ∙ (ap (λ (l : List ℕ). done ++ piece_records D a l) same
            ∙ (ap (λ (x : Records). done ++ x) (piece-as D a (bytes ++ left) ∙ (ap (behind_header a) split ∙ (more.1 ∙ (ap (λ (l : Records). l ++ more.0) here ∙ append_assoc xs is.0 more.0))))
            ∙ sym (append_assoc done xs (is.0 ++ more.0)))),
      )
  first-on (reading.Strict f) (reading.Strict s) last b stops xs is =
      subst (λ (x : Records). BeginIn D N (reading.Strict f) text (x ++ xs)) (sym b.3)
      (begin-part d text taken piece tail b.1 cut b.2 f (s || not last) (ends-well f s last b.0 stops) xs is)
  first-on (reading.Lenient f) (reading.Strict s) last b stops xs is = absurd b
  first-on (reading.Strict f) (reading.Lenient a) last b stops xs is = absurd b

  -- the place where the text stops being derived
  broken-on : may_delimit D ≡ true → Reads D → (rows : List (List Content)) → AreRows d.nulls d.types done rows → (how was : Reading) (last : Bool) → AreBehind D N how text taken done was old → Stops last → (f : StrictFault)
      → IsBroken d (reading_of_piece was last) piece (length rows) f → IsBroken d how text 0 f
  broken-on may law rows read (reading.Lenient f) (reading.Lenient a) last b stops at is = absurd is
  broken-on may law rows read (reading.Strict f) (reading.Strict s) last b stops at is =
      broken-in d text taken piece tail b.1 cut b.2 may law f (s || not last) (ends-well f s last b.0 stops) rows (subst (λ (x : Records). AreRows d.nulls d.types x rows) b.3 read) at is
  broken-on may law rows read (reading.Lenient f) (reading.Strict s) last b stops at is = absurd b
  broken-on may law rows read (reading.Strict f) (reading.Lenient a) last b stops at is = absurd b

module _ (d : Dividing) (how : Reading) (begin : Beginning) where
  -- the start
  pub start : (rest : Rest) (tells : Option (List ℕ)) → tells ≡ Some begin.text → rest.bytes.items ≡ [] → rest.rows ≡ 0 → rest.reading ≡ how
      → IsUnderway d how begin tells rest begin.told 0
  start rest tells told none zero same = record {
    front = taken-none d.delimiter begin.text rest.bytes.items tells told none;
    done = [];
    behind = rw (none, same) (behind-none d.delimiter (length d.types) how begin.text begin.text refl);
    divided = rw zero (divided-none d begin.told);
    outputs = refl;
  }

  -- no further record is divided
  pub first-kept : (rest : Rest) (tells : Option (List ℕ)) (now : List (Option (List ℕ))) (pieces : ℕ) (e : DivideRefused) → IsUnderway d how begin tells rest now pieces
      → HaveFirstRows d how begin.text begin.told now e
  first-kept rest tells now pieces e u =
      first-divided d how begin.text u.done begin.told now e (begin-done d.delimiter (length d.types) how rest.reading begin.text u.front.taken (rest.bytes.items ++ u.front.left) u.done u.behind u.front.order) rest.rows u.divided

  module _ (rest : Rest) (bytes : List ℕ) (old tells : Option (List ℕ)) (now : List (Option (List ℕ))) (pieces end : ℕ) (last : Bool) (u : IsUnderway d how begin old rest now pieces)
      (reads : (start : Option (List ℕ)) → Consumes start old rest.bytes.items → Consumes start tells bytes)
      (ends : last ≡ true → (end ≡ length bytes) × IsAtEnd tells)
      (splits : (more : List ℕ) → (last ≡ true → more ≡ []) → records (config_of d.delimiter) (bytes ++ more) ≡ records (config_of d.delimiter) (take end bytes) ++ records (config_of d.delimiter) (drop end bytes ++ more)) where
    -- what is told behind the bytes that were read
    abbrev next : Told rest.bytes.items u.front.left bytes tells
    next = told-now d.delimiter begin.text rest.bytes.items bytes old tells pieces u.front reads

    abbrev left : List ℕ
    left = next.more

    none-left : last ≡ true → left ≡ []
    none-left e = none-more d.delimiter begin.text rest.bytes.items bytes old tells pieces u.front reads (ends e).1

    none-behind : last ≡ true → drop end bytes ++ left ≡ []
    none-behind e =
        let all : drop end bytes ≡ [] = drop_all end bytes (omega (arith, (ends e).0)) in
        rw (all, none-left e) refl

    split : records (config_of d.delimiter) (bytes ++ left) ≡ records (config_of d.delimiter) (take end bytes) ++ records (config_of d.delimiter) (drop end bytes ++ left)
    split = splits left none-left

    cut : begin.text ≡ u.front.taken ++ (take end bytes ++ (drop end bytes ++ left))
    cut = order-cut d.delimiter begin.text rest.bytes.items bytes old tells pieces u.front reads end

    module _ (xs : Records) (after : List (Option (List ℕ))) (n : ℕ) (are : AreRecordsOf d.delimiter (length d.types) (reading_of_piece rest.reading last) (take end bytes) xs)
        (divided : IsDivided (after_rows rest.rows d) xs now after n) where
      divided-on : IsDivided d (u.done ++ xs) begin.told after (rest.rows + n)
      divided-on = divided-more d u.done xs begin.told now after rest.rows n u.outputs u.divided divided

      -- one piece more
      pub go-on : (ahead : Rest) → last ≡ false → length after ≡ length now → end ≤ length bytes → IsLineEnd d.delimiter bytes end
          → ((at : ℕ) → end < at → at ≤ length bytes → IsLineEnd d.delimiter bytes at → ⊥)
          → ReadsOn d.delimiter rest.reading (take end bytes) ahead.reading → ahead.bytes.items ≡ drop end bytes → ahead.rows ≡ rest.rows + n
          → IsUnderway d how begin tells ahead after (pieces + 1)
      go-on ahead is many within line behind on cut-off rows =
          let here = subst (λ (b : Bool). AreRecordsOf d.delimiter (length d.types) (reading_of_piece rest.reading b) (take end bytes) xs) is are in
          record {
            front = taken-more d.delimiter begin.text rest.bytes.items bytes old tells pieces u.front reads end within line behind ahead.bytes.items cut-off;
            done = u.done ++ xs;
            behind = rw cut-off (behind-on d begin.text u.front.taken (rest.bytes.items ++ u.front.left) bytes left end u.done next.same cut split how rest.reading ahead.reading u.behind on xs here);
            divided = rw rows divided-on;
            outputs = many ∙ u.outputs;
          }

      -- the last piece
      pub finish : (rows : ℕ) → last ≡ true → rows ≡ rest.rows + n → IsTextDivided d how begin.text begin.told after rows
      finish rows is many =
          let here = subst (λ (b : Bool). AreRecordsOf d.delimiter (length d.types) (reading_of_piece rest.reading b) (take end bytes) xs) is are in
          let all : bytes ++ left ≡ take end bytes = ap (λ (l : List ℕ). bytes ++ l) (none-left is) ∙ (append-nil bytes ∙ sym (take_all end bytes (omega (arith, (ends is).0)))) in (
            u.done ++ xs,
            all-on d begin.text u.front.taken (rest.bytes.items ++ u.front.left) bytes left end u.done next.same cut split how rest.reading u.behind (none-behind is) all xs here,
            rw many divided-on,
          )

    -- how a piece stops
    stops-at : (last ≡ true) ⊎ ((last ≡ false) × (end ≤ length bytes) × IsLineEnd d.delimiter bytes end)
        → Stops d begin.text u.front.taken (rest.bytes.items ++ u.front.left) bytes left end u.done next.same cut split last
    stops-at (inl e) = inl (none-behind e, e)
    stops-at (inr e) =
        let size : length (take end bytes) ≡ end = length-take-le end bytes e.1 in
        let byte : slice_index_or (take end bytes) (end - 1) 0 ≡ slice_index_or bytes (end - 1) 0 = get_or-take end bytes (end - 1) 0 (omega (arith, e.2.behind)) in
        inr (ap (λ (k : ℕ). slice_index_or (take end bytes) (k - 1) 0) size ∙ (byte ∙ e.2.feed), e.2.ends, e.0)

    -- records of a piece that is divided in part
    pub first-more : (last ≡ true) ⊎ ((last ≡ false) × (end ≤ length bytes) × IsLineEnd d.delimiter bytes end) → (after : List (Option (List ℕ))) (e : DivideRefused)
        → HaveFirstRows (after_rows rest.rows d) (reading_of_piece rest.reading last) (take end bytes) now after e → HaveFirstRows d how begin.text begin.told after e
    first-more stops after e first p low ne =
        let got = first p (omega (arith, low, u.outputs)) ne in (
          u.done ++ got.0,
          first-on d begin.text u.front.taken (rest.bytes.items ++ u.front.left) bytes left end u.done next.same cut split how rest.reading last u.behind (stops-at stops) got.0 got.1,
          part-more d u.done got.0 begin.told now after rest.rows p low u.divided got.2,
        )

    piece-at : (block : ℕ) → IsReadFor d.delimiter block rest.bytes.items bytes → (last ≡ true) ⊎ ((last ≡ false) × (end ≤ length bytes) × IsLineEnd d.delimiter bytes end)
        → IsPiece d.delimiter block begin.text (take end bytes)
    piece-at block read (inl e) =
        piece-read d.delimiter begin.text rest.bytes.items bytes old tells pieces u.front reads block end read (omega (arith, (ends e).0)) (inl (ends e).0)
    piece-at block read (inr e) = piece-read d.delimiter begin.text rest.bytes.items bytes old tells pieces u.front reads block end read e.1 (inr e.2)

    -- a piece that is not divided
    pub fault-in : may_delimit d.delimiter ≡ true → Reads d.delimiter → (block outputs : ℕ) (e : DivideRefused) → IsReadFor d.delimiter block rest.bytes.items bytes
        → (last ≡ true) ⊎ ((last ≡ false) × (end ≤ length bytes) × IsLineEnd d.delimiter bytes end)
        → IsPieceFault d (reading_of_piece rest.reading last) (take end bytes) rest.rows outputs e → IsDivisionFault d block how begin.text outputs e
    fault-in may law block outputs e read stops (inl h) =
        let there = subst (λ (k : ℕ). IsBroken d (reading_of_piece rest.reading last) (take end bytes) k h.0) u.divided.many h.2 in
        subst (IsDivisionFault d block how begin.text outputs) (sym h.1)
        (broken-on d begin.text u.front.taken (rest.bytes.items ++ u.front.left) bytes left end u.done next.same cut split may law u.divided.rows u.divided.read how rest.reading last u.behind (stops-at stops) h.0 there)
    fault-in may law block outputs e read stops (inr h) = go e h.2
      where
        begins : BeginIn d.delimiter (length d.types) how begin.text (u.done ++ h.0)
        begins = begin-on d begin.text u.front.taken (rest.bytes.items ++ u.front.left) bytes left end u.done next.same cut split how rest.reading last u.behind (stops-at stops) h.0 h.1

        go : (x : DivideRefused) → IsFaultBehind d rest.rows outputs h.0 x → IsDivisionFault d block how begin.text outputs x
        go (refused.Read f) g = (u.done ++ h.0, begins, first-behind d.nulls d.types u.done h.0 u.divided.rows rest.rows f u.divided.read u.divided.many g)
        go refused.TooLong g =
            let flag = flag-of d.delimiter (length d.types) how rest.reading last begin.text u.front.taken u.done (rest.bytes.items ++ u.front.left) u.behind in
            let a = rows-many d.nulls d.types u.done u.divided.rows u.divided.read in let b = length-append u.done h.0 in
            elim g [
              | inl many ↦ inl (
                h.0,
                record {
                  before = u.done;
                  begin = begins;
                  piece = take end bytes;
                  is_piece = piece-at block read stops;
                  flag = flag.0;
                  of_piece = subst (λ (r : Reading). StandIn d.delimiter (length d.types) r (take end bytes) h.0) flag.1 h.1;
                },
                many,
              )
              | inr many ↦ inr (inl (u.done ++ h.0, begins, omega (arith, a, b, u.divided.many, many)))
            ]
        go refused.ReadDevice g = tt
        go (refused.Broken f) g = absurd g
        go (refused.WriteDevice p) g = g
        go refused.Memory g = tt
