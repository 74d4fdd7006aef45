-- Where a row begins in a text that has a fault.
use Rattle.std.specs.Prelude.{ℕ, ◌+◌, ◌==◌, ◌≡◌, ◌<◌, ◌≤◌, if◌then◌else◌, Bool, true, false, List, [], ◌∷◌, ◌++◌, length, take, drop, None, Result, Ok, Err}
use Rattle.std.proofs.Common.{refl, sym, ap, subst, arith, ◌∙◌, inl, inr, get_or, length-append, length-drop}
use Rattle.std.specs.Prelude.{◌⊎◌}
use Rattle.std.proofs.lemmas.List.{append-nil, at_drop_more, at_drop_all}
use Rattle.std.proofs.Math.Seq.{take-append_seam}
use Rattle.rj_csv_io.specs.Grammar.{Derives, Field, escaped, non-escaped, Line, fields_text, lines_text}
use Rattle.rj_csv_io.specs.StrictFaults.{AreAbove, HasFault, row_at}
use Rattle.rj_csv_io.specs.Internal.StrictSteps.{at_delimiter, at_cr, at_dquote, at_lf, at_textdata, end_empty, end_of, forbids_empty, initial_standing, step_of, verdict}
use Rattle.rj_csv_io.specs.declared.strict.header.HeaderPlace.{HeaderPlace}
use Rattle.rj_csv_io.specs.declared.strict.header.HeaderPlace.TheVariants.{First, Above}
use Rattle.rj_csv_io.specs.declared.strict.fault.StrictFault.{StrictFault}
use Rattle.rj_csv_io.specs.declared.strict.standing.Place.TheVariants as place
use Rattle.rj_csv_io.specs.declared.strict.standing.Standing.{Standing}
use Rattle.rj_csv_io.proofs.Lawful.{Lawful}
use Rattle.rj_csv_io.proofs.Parsing.{Part, within, opened, returned, Taken, nothing, part_text, taken_text, take_byte, untaken}
use Rattle.rj_csv_io.proofs.Seen.{all_seen, initial-seen, byte-seen, place_of, seen}
use Rattle.rj_csv_io.proofs.Sound.{Good, IsTaken, byte-good}
use Rattle.rj_csv_io.proofs.StepFacts.{verdict-end, verdict-err, verdict-ok}
use Rattle.rj_csv_io.proofs.Answering.{says-err}

-- a byte stays in its row or begins the next one, and a fault is in the row
abbrev Begins : Standing → Result Standing StrictFault → Type 0
Begins s (Ok s2) = (s2.row ≡ s.row) ⊎ (s2.place ≡ place.Start)
Begins s (Err e) = row_at e ≡ s.row

begins-if : (s : Standing) (b : Bool) (x y : Result Standing StrictFault) → Begins s x → Begins s y → Begins s (if b then x else y)
begins-if s true x y p q = p
begins-if s false x y p q = q

begins-empty : (s : Standing) → Begins s (end_empty s)
begins-empty s = begins-if s (forbids_empty s.header) _ _ refl (inr refl)

begins-lf : (s : Standing) → Begins s (at_lf s)
begins-lf s = elim s.place as (λ p. Begins s (at_lf (record s { place = p }))) [
  | place.Start ↦ begins-empty s
  | place.Fresh ↦ inr refl
  | place.Inside ↦ inr refl
  | place.Open ↦ inl refl
  | place.Closed ↦ inr refl
  | place.Blank ↦ begins-empty s
  | place.Return ↦ inr refl
]

begins-delimiter : (s : Standing) → Begins s (at_delimiter s)
begins-delimiter s = elim s.place as (λ p. Begins s (at_delimiter (record s { place = p }))) [
  | place.Start ↦ inl refl
  | place.Fresh ↦ inl refl
  | place.Inside ↦ inl refl
  | place.Open ↦ inl refl
  | place.Closed ↦ inl refl
  | place.Blank ↦ refl
  | place.Return ↦ refl
]

begins-cr : (s : Standing) → Begins s (at_cr s)
begins-cr s = elim s.place as (λ p. Begins s (at_cr (record s { place = p }))) [
  | place.Start ↦ inl refl
  | place.Fresh ↦ inl refl
  | place.Inside ↦ inl refl
  | place.Open ↦ inl refl
  | place.Closed ↦ inl refl
  | place.Blank ↦ refl
  | place.Return ↦ refl
]

begins-dquote : (s : Standing) → Begins s (at_dquote s)
begins-dquote s = elim s.place as (λ p. Begins s (at_dquote (record s { place = p }))) [
  | place.Start ↦ inl refl
  | place.Fresh ↦ inl refl
  | place.Inside ↦ refl
  | place.Open ↦ inl refl
  | place.Closed ↦ inl refl
  | place.Blank ↦ refl
  | place.Return ↦ refl
]

begins-textdata : (s : Standing) → Begins s (at_textdata s)
begins-textdata s = elim s.place as (λ p. Begins s (at_textdata (record s { place = p }))) [
  | place.Start ↦ inl refl
  | place.Fresh ↦ inl refl
  | place.Inside ↦ inl refl
  | place.Open ↦ inl refl
  | place.Closed ↦ refl
  | place.Blank ↦ refl
  | place.Return ↦ refl
]

begins : (d : ℕ) (s : Standing) (c : ℕ) → Begins s (step_of d s c)
begins d s c =
    begins-if s (c == 10) _ _ (begins-lf s) (begins-if s (c == 13) _ _ (begins-cr s)
    (begins-if s (c == 34) _ _ (begins-dquote s) (begins-if s (c == d) _ _ (begins-delimiter s) (begins-textdata s))))

abbrev Ends : Standing → Result (Unit {0}) StrictFault → Type 0
Ends s (Ok u) = Unit {0}
Ends s (Err e) = row_at e ≡ s.row

ends-if : (s : Standing) (b : Bool) (e : StrictFault) → row_at e ≡ s.row → Ends s (if b then Err e else Ok tt)
ends-if s true e same = same
ends-if s false e same = tt

ends : (full : Bool) (s : Standing) → Ends s (end_of full s)
ends full s = elim s.place as (λ p. Ends s (end_of full (record s { place = p }))) [
  | place.Start ↦ tt
  | place.Fresh ↦ ends-if s full _ refl
  | place.Inside ↦ ends-if s full _ refl
  | place.Open ↦ refl
  | place.Closed ↦ ends-if s full _ refl
  | place.Blank ↦ refl
  | place.Return ↦ refl
]

-- at the start of a record nothing of it is taken
record IsUntaken (fields : List Field) (p : Part) : Type 0 where
  no-fields : fields ≡ []
  no-part : p ≡ nothing

starts-untaken : (fields : List Field) (p : Part) → place_of fields p ≡ place.Start → IsUntaken fields p
starts-untaken [] (within (non-escaped [])) e = record { no-fields = refl; no-part = refl }
starts-untaken (g ∷ fields) (within (non-escaped [])) e = cc e
starts-untaken [] (within (non-escaped (c ∷ bytes))) e = cc e
starts-untaken (g ∷ fields) (within (non-escaped (c ∷ bytes))) e = cc e
starts-untaken [] (within (escaped bytes)) e = cc e
starts-untaken (g ∷ fields) (within (escaped bytes)) e = cc e
starts-untaken [] (opened bytes) e = cc e
starts-untaken (g ∷ fields) (opened bytes) e = cc e
starts-untaken [] (returned (non-escaped [])) e = cc e
starts-untaken (g ∷ fields) (returned (non-escaped [])) e = cc e
starts-untaken [] (returned (non-escaped (c ∷ bytes))) e = cc e
starts-untaken (g ∷ fields) (returned (non-escaped (c ∷ bytes))) e = cc e
starts-untaken [] (returned (escaped bytes)) e = cc e
starts-untaken (g ∷ fields) (returned (escaped bytes)) e = cc e

-- where the walk stands in a text that has its fault in a row: at that row's start, or before it
pub record Stands (d : ℕ) (h : HeaderPlace) (row : ℕ) (text : List ℕ) (at : ℕ) (s : Standing) : Type 0 where
  pub full : Bool
  pub fault : StrictFault
  pub is_row : row_at fault ≡ row
  pub told : verdict d full s (drop at text) ≡ Err fault
  pub taken : Taken
  pub lawful : IsTaken d h taken
  pub spelled : text ≡ taken_text d taken (drop at text)
  pub sees : s ≡ seen h taken
  pub starts : s.row ≡ row → s.place ≡ place.Start

pub initial-near : (h : HeaderPlace) → ((initial_standing h).row ≤ 1) × ((initial_standing h).column ≤ 1)
initial-near First = (omega arith, omega arith)
initial-near (Above names) = (omega arith, omega arith)

initial-start : (h : HeaderPlace) → (initial_standing h).place ≡ place.Start
initial-start First = refl
initial-start (Above names) = refl

pub stands-initial : (d : ℕ) (law : Lawful d) (h : HeaderPlace) (row : ℕ) (text : List ℕ) (s : Standing) → (full : Bool) × (f : StrictFault) × HasFault d h full text f × (row_at f ≡ row) → s ≡ initial_standing h → Stands d h row text 0 s
stands-initial d law h row text s has is = record {
  full = has.0;
  fault = has.1;
  is_row = has.3;
  told = ap (λ (x : Standing). verdict d has.0 x text) is ∙ says-err d h has.0 text law has.1 has.2;
  taken = untaken;
  lawful = record { lines = refl; fields = refl; part = refl };
  spelled = refl;
  sees = is ∙ initial-seen h;
  starts = λ on. ap (λ (x : Standing). x.place) is ∙ initial-start h;
}

ok-standing : (s t : Standing) → ◌≡◌ {A = Result Standing StrictFault} (Ok s) (Ok t) → s ≡ t
ok-standing s t e = cc

err-fault : {T : Type 0} (e f : StrictFault) → ◌≡◌ {A = Result T StrictFault} (Err e) (Err f) → e ≡ f
err-fault e f p = cc

module _ (d : ℕ) (h : HeaderPlace) (row : ℕ) (text : List ℕ) (at : ℕ) (s : Standing) (st : Stands d h row text at s) where
  stands-next : (s2 : Standing) (r : Result Taken StrictFault) → Ok s2 ≡ all_seen h r → Good d h st.full text (drop (at + 1) text) r
      → verdict d st.full s2 (drop (at + 1) text) ≡ Err st.fault → (s2.row ≡ row → s2.place ≡ place.Start) → Stands d h row text (at + 1) s2
  stands-next s2 (Ok t2) e g told starts = record {
    full = st.full;
    fault = st.fault;
    is_row = st.is_row;
    told = told;
    taken = t2;
    lawful = g.0;
    spelled = g.1;
    sees = ok-standing s2 (seen h t2) e;
    starts = starts;
  }
  stands-next s2 (Err x) e g told starts = cc e

  -- a byte more, before the row begins
  pub stands-more : (s2 : Standing) → at < length text → Ok s2 ≡ step_of d s (get_or text at 0) → (s.row ≡ row → ⊥) → Stands d h row text (at + 1) s2
  stands-more s2 lt is not =
      let c = get_or text at 0 in
      let rest = drop (at + 1) text in
      let here : drop at text ≡ c ∷ rest = at_drop_more (λ (x : List ℕ). x) text at 0 lt in
      let next : Ok s2 ≡ all_seen h (take_byte d h st.taken c) = is ∙ (ap (λ (x : Standing). step_of d x c) st.sees ∙ byte-seen d h st.taken c) in
      let good = byte-good d h st.full text rest st.taken st.lawful c (st.spelled ∙ ap (λ (x : List ℕ). taken_text d st.taken x) here) in
      let told : verdict d st.full s2 rest ≡ Err st.fault = sym (verdict-ok d st.full s s2 c rest is) ∙ (ap (λ (x : List ℕ). verdict d st.full s x) (sym here) ∙ st.told) in
      let moved : (s2.row ≡ s.row) ⊎ (s2.place ≡ place.Start) = subst (λ (r : Result Standing StrictFault). Begins s r) (sym is) (begins d s c) in
      stands-next s2 (take_byte d h st.taken c) next good told (λ on. elim moved [ inl same ↦ absurd (not (sym same ∙ on)) | inr start ↦ start ])

  -- a byte that has a fault is in the row
  pub fault-here : (e : StrictFault) → at < length text → Err e ≡ step_of d s (get_or text at 0) → s.row ≡ row
  fault-here e lt is =
      let c = get_or text at 0 in
      let rest = drop (at + 1) text in
      let here : drop at text ≡ c ∷ rest = at_drop_more (λ (x : List ℕ). x) text at 0 lt in
      let same : e ≡ st.fault = err-fault {T = Unit {0}} e st.fault (sym (verdict-err d st.full s e c rest is) ∙ (ap (λ (x : List ℕ). verdict d st.full s x) (sym here) ∙ st.told)) in
      let in_row : row_at e ≡ s.row = subst (λ (r : Result Standing StrictFault). Begins s r) (sym is) (begins d s c) in
      sym in_row ∙ (ap row_at same ∙ st.is_row)

  -- and so is the end of the text
  pub end-here : length text ≤ at → s.row ≡ row
  end-here all =
      let told : end_of st.full s ≡ Err st.fault = sym (verdict-end d st.full s) ∙ (sym (at_drop_all (verdict d st.full s) text at all) ∙ st.told) in
      let in_row : row_at st.fault ≡ s.row = subst (λ (r : Result (Unit {0}) StrictFault). Ends s r) told (ends st.full s) in
      sym in_row ∙ st.is_row

  untaken-text : (fields : List Field) (p : Part) (rest : List ℕ) → IsUntaken fields p → fields_text d fields ++ part_text p rest ≡ rest
  untaken-text fields p rest none = rw (none.no-fields, none.no-part) refl

  -- where the row begins, whole lines are behind
  pub lines-here : at ≤ length text → s.row ≡ row → (lines : List Line) × AreAbove d h text row lines × (take at text ≡ lines_text d lines)
  lines-here le on =
      let t = st.taken in
      let left = drop at text in
      let start : place_of t.fields t.part ≡ place.Start = sym (ap (λ (x : Standing). x.place) st.sees) ∙ st.starts on in
      let whole : text ≡ lines_text d t.lines ++ left = st.spelled ∙ ap (λ (x : List ℕ). lines_text d t.lines ++ x) (untaken-text t.fields t.part left (starts-untaken t.fields t.part start)) in
      let sizes : length text ≡ length (lines_text d t.lines) + length left = ap (λ (x : List ℕ). length x) whole ∙ length-append (lines_text d t.lines) left in
      let size : length left ≡ length (drop at text) = refl in
      let dropped = length-drop at text in
      let is_at : at ≡ length (lines_text d t.lines) = omega (arith, sizes, dropped, le) in (
        t.lines,
        record {
          left = left;
          spelled = whole;
          are_lines = st.lawful.lines;
          at_row = sym on ∙ ap (λ (x : Standing). x.row) st.sees;
        },
        ap (λ (n : ℕ). take n text) is_at ∙ (ap (λ (x : List ℕ). take (length (lines_text d t.lines)) x) whole ∙ take-append_seam (lines_text d t.lines) left),
      )

-- whole lines are derived
pub lines_derived : (d : ℕ) (text above : List ℕ) (row : ℕ) (lines : List Line) → AreAbove d First text row lines → above ≡ lines_text d lines
    → Derives d First true above (record { lines = lines; rest = None })
lines_derived d text above row lines are is = record { spelled = is ∙ sym (append-nil (lines_text d lines)); lines = are.are_lines; rest = refl }
