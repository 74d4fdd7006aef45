-- What was read.
use Rattle.std.proofs.Common.{◌≡◌, ◌∙◌, ℕ, List, [], ◌∷◌, append-nil, ap, refl, sym}
use Rattle.std.specs.Prelude.{MatchOption, Option, None, Some, false}
use Rattle.rj_csv_io.specs.Pieces.{names_in}
use Rattle.rj_csv_io.specs.declared.pieces.Header.{Header}
use Rattle.rj_csv_io.specs.StrictFaults.{AreAbove}
use Rattle.rj_csv_io.specs.Grammar.{Derives, Line, lines_text}
use Rattle.rj_csv_io.specs.declared.strict.header.HeaderPlace.TheVariants.{First}
use Rattle.rj_explain.specs.Explained.{first_record, names_of}

-- lines above a row are a file
pub above-derives : (d : ℕ) (text above : List ℕ) (row : ℕ) (lines : List Line) → AreAbove d First text row lines → above ≡ lines_text d lines
    → Derives d First false above (record { lines = lines; rest = None })
above-derives d text above row lines h e = record { spelled = e ∙ sym (append-nil (lines_text d lines)); lines = h.are_lines; rest = refl }

-- the names of a header that is the first record, or of none
pub header-is : (o : Option Header) (rs : List (List (List ℕ))) → MatchOption o (rs ≡ []) (λ h. (rest : List (List (List ℕ))) × (rs ≡ names_in h ∷ rest))
    → names_of o ≡ first_record rs
header-is None rs e = sym (ap first_record e)
header-is (Some h) rs found = sym (ap first_record found.1)
