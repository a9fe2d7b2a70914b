-- The calls of the makers, way by way.
use Rattle.std.proofs.Common.{◌≡◌, ℕ, ◌+◌, ◌<◌, ◌≤◌, List, [], ◌∷◌, length, cond, ltb, eqb, inl, inr, sym, refl, ap, ◌∙◌, subst, arith, le-ltb, lt-ltb, eq-eqb, ne_eqb}
use Rattle.std.proofs.lemmas.List.{length-map}
use Rattle.grammar.specs.declared.figures.Figures.{Figures}
use Rattle.grammar.specs.declared.error.Refusal.{Refusal}
use Rattle.grammar.specs.Refusals.{refused, number_of, values_of}
use Rattle.rows.specs.declared.RowList.{RowList}
use Rattle.book.specs.Plain.{Answer}
use Rattle.book.specs.Nodes.{Node, dict, figures_at, figures_from, array_figures, maybe_figures, dict_figures, size_of}
use Rattle.book.specs.Makers.{placed, sized, dict_call}
use Rattle.layout.specs.declared.row.Kind.TheVariants.{Array, Dict, Maybe}
use Rattle.layout.specs.declared.row.TypeRow.{TypeRow}
use Rattle.layout.specs.declared.row.FieldRow.{FieldRow}
use Rattle.sheet.specs.declared.sheet.Sheet.{Sheet}
use Rattle.layout.specs.Kept.{Fit, nodes_of, tails_in, types_in, fields_in, node_of}
use Rattle.layout.specs.Figured.{Bounded, Short, Figured, FiguredPart, NotPart}
use Rattle.layout.specs.Made.{Made, with_tails}
use Rattle.layout.proofs.Bounds.{bounded}
use Rattle.layout.proofs.Undo.{unchanged_refl, grew_same}

-- the figures of a known number are bounded
pub known_bounded : (b : List Node) (n : ℕ) (f : Figures) → Figured b n f → Bounded f
known_bounded b n f k = subst Bounded (sym k.figures) (bounded b n)

module _ (t : RowList TypeRow) (f : RowList FieldRow) where
  count : length (nodes_of t f) ≡ length (types_in t)
  count = length-map (types_in t) (node_of (fields_in f))

  pub fit_array : (n : ℕ) (part whole : Figures) → FiguredPart (nodes_of t f) n part → Short (array_figures part) whole
      → Fit (types_in t) (fields_in f) (record { kind = Array; first = n; second = 0; figures = whole })
  fit_array n part whole k s = record {
    coded = refl;
    figures = s.figures ∙ ap array_figures k.figured.figures;
    known = (k.more, omega (arith, count, k.figured.known));
  }

  pub fit_maybe : (n : ℕ) (part whole : Figures) → FiguredPart (nodes_of t f) n part → Short (maybe_figures part) whole
      → Fit (types_in t) (fields_in f) (record { kind = Maybe; first = n; second = 0; figures = whole })
  fit_maybe n part whole k s = record {
    coded = refl;
    figures = s.figures ∙ ap maybe_figures k.figured.figures;
    known = (k.more, omega (arith, count, k.figured.known));
  }

  pub fit_dict : (k v : ℕ) (key value whole : Figures) → Figured (nodes_of t f) k key → Figured (nodes_of t f) v value → (k ≡ 0 → ⊥) → (v ≡ 0 → ⊥) → Short (dict_figures key value) whole
      → Fit (types_in t) (fields_in f) (record { kind = Dict; first = k; second = v; figures = whole })
  fit_dict k v key value whole p q y z s = record {
    coded = refl;
    figures = s.figures ∙ ap (λ (u : Figures). dict_figures u value) p.figures ∙ ap (dict_figures (figures_at (figures_from [] (nodes_of t f)) k)) q.figures;
    known = ((omega arith, omega (arith, count, p.known)), (omega arith, omega (arith, count, q.known)));
  }

-- a refusal leaves the sheet as it was
pub made_still : (s s' : Sheet) (e : ℕ) (vs : List ℕ) (said : Answer × List Node) → s' ≡ s → said ≡ (refused e vs, nodes_of s.types s.fields)
    → Made s.types s.fields s'.types s'.fields (refused e vs) (with_tails (tails_in s.fields) said)
made_still s s' e vs said q p =
    subst (λ (x : Sheet). Made s.types s.fields x.types x.fields (refused e vs) (with_tails (tails_in s.fields) said)) (sym q)
    (record {
      answer = sym (ap (λ (x : Answer × List Node). x.0) p);
      nodes = sym (ap (λ (x : Answer × List Node). x.1) p);
      tails = refl;
      grew = grew_same s.types s.fields s.types s.fields (unchanged_refl s.types s.fields);
      unchanged = unchanged_refl s.types s.fields;
    })

-- a container entered where the sheet is as it was
pub made_as : (s s' : Sheet) (t : RowList TypeRow) (f : RowList FieldRow) (r : Answer) (x : Node) (said : Answer × List Node) → s' ≡ s
    → said ≡ placed s.types.cap (nodes_of s.types s.fields) x
    → Made s'.types s'.fields t f r (with_tails (tails_in s'.fields) (placed s'.types.cap (nodes_of s'.types s'.fields) x))
    → Made s.types s.fields t f r (with_tails (tails_in s.fields) said)
made_as s s' t f r x said q p h =
    subst (λ (u : Answer × List Node). Made s.types s.fields t f r (with_tails (tails_in s.fields) u)) (sym p)
    (subst (λ (u : Sheet). Made u.types u.fields t f r (with_tails (tails_in u.fields) (placed u.types.cap (nodes_of u.types u.fields) x))) q h)

module _ (cap : ℕ) (b : List Node) where
  sized_in : (x : Node) → size_of b x ≤ 65535 → sized cap b x ≡ placed cap b x
  sized_in x l = rw (le-ltb 65535 (size_of b x) l)

  sized_long : (x : Node) → 65535 < size_of b x → sized cap b x ≡ (refused 7 [], b)
  sized_long x l = rw (lt-ltb 65535 (size_of b x) l)

  -- a container x of the one part n
  module _ (n : ℕ) (x : Node) where
    abbrev pub part_call : Answer × List Node
    part_call = cond (ltb n (15 + length b)) (cond (eqb n 0) (refused 4 (0 ∷ []), b) (sized cap b x)) (refused 3 (0 ∷ []), b)

    pub part_refused : (e : Refusal) → NotPart b n e → part_call ≡ (refused (number_of e) (values_of e), b)
    part_refused e (inl u) = rw (le-ltb n (15 + length b) u.unknown, u.refusal) refl
    part_refused e (inr u) = rw (lt-ltb n (15 + length b) u.known, eq-eqb n 0 u.unit, u.refusal) refl

    part_sized : (f : Figures) → FiguredPart b n f → part_call ≡ sized cap b x
    part_sized f k = rw (lt-ltb n (15 + length b) k.figured.known, ne_eqb n 0 (omega (arith, k.more))) refl

    pub part_long : (f : Figures) → FiguredPart b n f → 65535 < size_of b x → part_call ≡ (refused 7 [], b)
    part_long f k l = part_sized f k ∙ sized_long x l

    pub part_good : (f : Figures) → FiguredPart b n f → size_of b x ≤ 65535 → part_call ≡ placed cap b x
    part_good f k l = part_sized f k ∙ sized_in x l

  module _ (k v : ℕ) where
    pub dict_unknown : 15 + length b ≤ k → dict_call cap b k v ≡ (refused 3 (0 ∷ []), b)
    dict_unknown h = rw (le-ltb k (15 + length b) h)

    pub dict_unknown_1 : k < 15 + length b → 15 + length b ≤ v → dict_call cap b k v ≡ (refused 3 (1 ∷ []), b)
    dict_unknown_1 h g = rw (lt-ltb k (15 + length b) h, le-ltb v (15 + length b) g)

    pub dict_unit : k < 15 + length b → v < 15 + length b → k ≡ 0 → dict_call cap b k v ≡ (refused 4 (0 ∷ []), b)
    dict_unit h g z = rw (lt-ltb k (15 + length b) h, lt-ltb v (15 + length b) g, eq-eqb k 0 z)

    pub dict_unit_1 : k < 15 + length b → v < 15 + length b → (k ≡ 0 → ⊥) → v ≡ 0 → dict_call cap b k v ≡ (refused 4 (1 ∷ []), b)
    dict_unit_1 h g z y = rw (lt-ltb k (15 + length b) h, lt-ltb v (15 + length b) g, ne_eqb k 0 z, eq-eqb v 0 y)

    dict_known : k < 15 + length b → v < 15 + length b → (k ≡ 0 → ⊥) → (v ≡ 0 → ⊥) → dict_call cap b k v ≡ sized cap b (dict k v)
    dict_known h g z y = rw (lt-ltb k (15 + length b) h, lt-ltb v (15 + length b) g, ne_eqb k 0 z, ne_eqb v 0 y)

    dict_size : (key value : Figures) → Figured b k key → Figured b v value → (dict_figures key value).length ≡ size_of b (dict k v)
    dict_size key value p q =
        ap (λ (u : Figures). (dict_figures u value).length) p.figures ∙ ap (λ (u : Figures). (dict_figures (figures_at (figures_from [] b) k) u).length) q.figures

    pub dict_long : (key value : Figures) → Figured b k key → Figured b v value → (k ≡ 0 → ⊥) → (v ≡ 0 → ⊥) → 65535 < (dict_figures key value).length → dict_call cap b k v ≡ (refused 7 [], b)
    dict_long key value p q z y l = dict_known p.known q.known z y ∙ sized_long (dict k v) (subst (λ (n : ℕ). 65535 < n) (dict_size key value p q) l)

    pub dict_good : (key value : Figures) → Figured b k key → Figured b v value → (k ≡ 0 → ⊥) → (v ≡ 0 → ⊥) → (dict_figures key value).length ≤ 65535 → dict_call cap b k v ≡ placed cap b (dict k v)
    dict_good key value p q z y l = dict_known p.known q.known z y ∙ sized_in (dict k v) (subst (λ (n : ℕ). n ≤ 65535) (dict_size key value p q) l)
