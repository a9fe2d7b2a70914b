-- The steps to a byte: along the parts of a container, and by its row.
use Rattle.std.proofs.Common.{◌≡◌, ℕ, ◌+◌, ◌-◌, ◌<◌, ◌≤◌, List, [], ◌∷◌, ◌++◌, length, slice_get, nat_eq, Option, sym, refl, ap, ◌∙◌, subst, inl, inr, append_assoc, arith}
use Rattle.std.specs.Bool.{then_some}
use Rattle.grammar.specs.Lists.{In}
use Rattle.grammar.specs.Shape.{Text}
use Rattle.book.specs.Plain.{text_of, texts}
use Rattle.book.specs.Nodes.{maybe, dict}
use Rattle.sheet.specs.declared.sheet.Sheet.{Sheet}
use Rattle.sheet.specs.Seen.{book_in}
use Rattle.layout.specs.declared.row.TypeRow.{TypeRow}
use Rattle.layout.specs.declared.row.FieldRow.{FieldRow}
use Rattle.layout.specs.declared.row.Kind.{Kind}
use Rattle.layout.specs.declared.row.Kind.TheVariants.{Array, Dict, Structure}
use Rattle.layout.specs.Kept.{node_by, fields_in}
use Rattle.forms.specs.declared.bytes.Step.{Step}
use Rattle.forms.specs.declared.bytes.Step.TheVariants.{Done, Part}
use Rattle.forms.specs.Steps.{node_text, parts_of, node_in, fields_from, FieldHere, Within, Leads}
use Rattle.forms.proofs.At.{at_behind, at_left, at_right, at_last}
use Rattle.forms.proofs.Texts.{Row, row_text, row_part}

-- Byte p of the parts `all` in a row and the byte c behind them is byte `left` of the parts `here`, the last of all, and c.
pub record Reached (b : List Text) (c : ℕ) (all : List ℕ) (p : ℕ) (here : List ℕ) (left : ℕ) : Type 0 where
  pub same : slice_get (texts b here ++ c ∷ []) left ≡ slice_get (texts b all ++ c ∷ []) p
  pub among : (m : ℕ) → In m here → In m all

pub at_start : (b : List Text) (c : ℕ) (all : List ℕ) (p : ℕ) → Reached b c all p all p
at_start b c all p = record { same = refl; among = λ m i. i }

module _ {b : List Text} {c : ℕ} {all : List ℕ} {p : ℕ} where
  pub at_end : {left : ℕ} → Reached b c all p [] left → then_some (nat_eq left 0) c ≡ slice_get (texts b all ++ c ∷ []) p
  at_end {left} r = at_last c left ∙ r.same

  module _ {f : ℕ} {fs : List ℕ} {left : ℕ} (r : Reached b c all p (f ∷ fs) left) where
    split : slice_get (text_of b f ++ (texts b fs ++ c ∷ [])) left ≡ slice_get (texts b all ++ c ∷ []) p
    split = ap (λ (t : Text). slice_get t left) (sym (append_assoc (text_of b f) (texts b fs) (c ∷ []))) ∙ r.same

    -- in the part f, or past it
    pub in_part : left < length (text_of b f) → Within b (texts b all ++ c ∷ []) all p f left
    in_part l = record { part = r.among f (inl refl); byte = sym (at_left (text_of b f) (texts b fs ++ c ∷ []) left l) ∙ split }

    pub past_part : {rest : ℕ} → length (text_of b f) + rest ≡ left → Reached b c all p fs rest
    past_part {rest} e = record { same = sym (at_right (text_of b f) (texts b fs ++ c ∷ []) left rest e) ∙ split; among = λ m i. r.among m (inr i) }

-- at a field row, the parts that are left are its field and those behind it
pub onto : {s s' : Sheet} {all : List ℕ} {p at left : ℕ} {x : FieldRow} → Reached (book_in s) 41 all p (fields_from s at) left → s' ≡ s → FieldHere s' at x
    → Reached (book_in s) 41 all p (x.field ∷ fields_from s x.next) left
onto {s} {s'} {all} {p} {at} {left} {x} r e h =
    let f : FieldHere s at x = subst (λ (z : Sheet). FieldHere z at x) e h in
    subst (λ (fs : List ℕ). Reached (book_in s) 41 all p fs left) f.fields r

-- a step by a row of the kind k
pub leads_by : (s : Sheet) (r : TypeRow) (k : Kind) (p : ℕ) (o : Step) → r.kind ≡ k
    → Leads (book_in s) (node_text (book_in s) (node_by (fields_in s.fields) k r.first r.second)) (parts_of (node_by (fields_in s.fields) k r.first r.second)) p o
    → Leads (book_in s) (node_text (book_in s) (node_in s r)) (parts_of (node_in s r)) p o
leads_by s r k p o e l = subst (λ (j : Kind). Leads (book_in s) (node_text (book_in s) (node_by (fields_in s.fields) j r.first r.second)) (parts_of (node_by (fields_in s.fields) j r.first r.second)) p o) (sym e) l

pub leads_other : (s : Sheet) (r : TypeRow) (k : Kind) (p : ℕ) (o : Step) → (k ≡ Array → ⊥) → (k ≡ Dict → ⊥) → (k ≡ Structure → ⊥)
    → Leads (book_in s) (node_text (book_in s) (maybe r.first)) (r.first ∷ []) p o
    → Leads (book_in s) (node_text (book_in s) (node_by (fields_in s.fields) k r.first r.second)) (parts_of (node_by (fields_in s.fields) k r.first r.second)) p o
leads_other s r Array p o a b c l = absurd (a refl)
leads_other s r Dict p o a b c l = absurd (b refl)
leads_other s r Structure p o a b c l = absurd (c refl)
leads_other s r k p o a b c l = l

-- a step in what stands behind a byte
pub leads_behind : (b : List Text) (c p : ℕ) (w : Text) (ms : List ℕ) (r : Step) → 0 < p → Leads b w ms (p - 1) r → Leads b (c ∷ w) ms p r
leads_behind b c p w ms (Done x) l e = e ∙ sym (at_behind c p w l)
leads_behind b c p w ms (Part m q) l h = record { part = h.part; byte = h.byte ∙ sym (at_behind c p w l) }

-- in a dictionary's key, value and closing brace
pub leads_pair : (b : List Text) (p k v : ℕ) (r : Step) → 2 ≤ p → Leads b (texts b (k ∷ v ∷ []) ++ 125 ∷ []) (k ∷ v ∷ []) (p - 2) r → Leads b (node_text b (dict k v)) (k ∷ v ∷ []) p r
leads_pair b p k v r l h =
    let e : p - 2 ≡ p - 1 - 1 = omega arith in
    let w : texts b (k ∷ v ∷ []) ++ 125 ∷ [] ≡ text_of b k ++ (text_of b v ++ 125 ∷ []) = simp append_assoc in
    leads_behind b 97 p (123 ∷ (text_of b k ++ (text_of b v ++ 125 ∷ []))) (k ∷ v ∷ []) r (omega arith)
    (leads_behind b 123 (p - 1) (text_of b k ++ (text_of b v ++ 125 ∷ [])) (k ∷ v ∷ []) r (omega arith) (subst (λ (t : Text). Leads b t (k ∷ v ∷ []) (p - 1 - 1) r) w (subst (λ (q : ℕ). Leads b (texts b (k ∷ v ∷ []) ++ 125 ∷ []) (k ∷ v ∷ []) q r) e h)))

-- What a step by the row of n says of n.
module _ {s s' : Sheet} {n : ℕ} {x : TypeRow} (p : ℕ) (e : s' ≡ s) (r : Row s n x) where
  pub row_done : {o : Option ℕ} → o ≡ slice_get (node_text (book_in s') (node_in s' x)) p → o ≡ slice_get (text_of (book_in s) n) p
  row_done d = d ∙ ap (λ (z : Sheet). slice_get (node_text (book_in z) (node_in z x)) p) e ∙ ap (λ (w : Text). slice_get w p) (sym (row_text s r))

  module _ {m q : ℕ} (i : Within (book_in s') (node_text (book_in s') (node_in s' x)) (parts_of (node_in s' x)) p m q) where
    pub row_below : m < n
    row_below = row_part s r m (subst (λ (z : Sheet). In m (parts_of (node_in z x))) e i.part)

    pub row_within : slice_get (text_of (book_in s') m) q ≡ slice_get (text_of (book_in s) n) p
    row_within = row_done i.byte
