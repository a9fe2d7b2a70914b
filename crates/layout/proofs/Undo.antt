-- Rows that grew, and that are cut back.
use Rattle.std.proofs.Common.{◌≡◌, ℕ, ◌<◌, ◌≤◌, List, length, get_or, sym, refl, ap, ◌∙◌, ap₂, inl, inr, arith}
use native.Mathlib.Decide.{dec_lt}
use Rattle.std.proofs.lemmas.List.{same_lists, get_or_default, get_or-set_other, length-set}
use Rattle.rows.specs.declared.RowList.{RowList}
use Rattle.rows.specs.Found.{Place}
use Rattle.layout.specs.declared.row.TypeRow.{TypeRow}
use Rattle.layout.specs.declared.row.FieldRow.{FieldRow}
use Rattle.layout.specs.Tails.{blank_field}
use Rattle.layout.specs.Kept.{Kept, nodes_of, tails_in, blank_type}
use Rattle.layout.specs.Laid.{Laid}
use Rattle.layout.specs.Grown.{Same, Grown, Cut, Grew, Unchanged}
use Rattle.layout.specs.Called.{limits_of}

pub same_refl : {R : Type 0} (t : RowList R) → Same t t
same_refl t = record { rows = refl; count = refl; cap = refl }

pub unchanged_refl : (t : RowList TypeRow) (f : RowList FieldRow) → Unchanged t f t f
unchanged_refl t f = record { types = same_refl t; fields = same_refl f }

pub grown_same : {R : Type 0} (t t' : RowList R) → Same t' t → Grown t t'
grown_same t t' s = record { cap = s.cap; long = ap length s.rows; low = omega (arith, s.count); same = λ k d h. ap (λ (u : List _). get_or u k d) s.rows }

pub grew_same : (t : RowList TypeRow) (f : RowList FieldRow) (t' : RowList TypeRow) (f' : RowList FieldRow) → Unchanged t f t' f' → Grew t f t' f'
grew_same t f t' f' u = record { types = grown_same t t' u.types; fields = grown_same f f' u.fields }

pub grown_trans : {R : Type 0} (a b c : RowList R) → Grown a b → Grown b c → Grown a c
grown_trans a b c p q = record { cap = q.cap ∙ p.cap; long = q.long ∙ p.long; low = omega (arith, p.low, q.low); same = λ k d h. q.same k d (omega (arith, p.low)) ∙ p.same k d h }

pub grew_trans : (t : RowList TypeRow) (f : RowList FieldRow) (t' : RowList TypeRow) (f' : RowList FieldRow) (t'' : RowList TypeRow) (f'' : RowList FieldRow) → Grew t f t' f' → Grew t' f' t'' f'' → Grew t f t'' f''
grew_trans t f t' f' t'' f'' p q = record { types = grown_trans t t' t'' p.types q.types; fields = grown_trans f f' f'' p.fields q.fields }

-- the limits stay
pub limits_grew : (t : RowList TypeRow) (f : RowList FieldRow) (t' : RowList TypeRow) (f' : RowList FieldRow) → Grew t f t' f' → limits_of t' f' ≡ limits_of t f
limits_grew t f t' f' g = ap₂ (λ (x y : ℕ). record { types = x; fields = y }) g.types.cap g.fields.cap

pub grown_by : {R : Type 0} (key : R → List ℕ) (t t' : RowList R) (r : R) (i : ℕ) → t.count ≤ length t.rows.now → t'.cap ≡ t.cap
    → Place key t.rows.now t.count t.cap r t'.rows.now t'.count i → Grown t t'
grown_by key t t' r i h e (inl p) = grown_same t t' (record { rows = p.rows; count = p.count; cap = e })
grown_by key t t' r i h e (inr p) = record {
  cap = e;
  long = ap length p.rows ∙ length-set _ _ _;
  low = omega (arith, p.count);
  same = λ k d m. ap (λ (u : List _). get_or u k d) p.rows ∙ get_or-set_other _ _ k r d (omega arith);
}

pub grown_laid : (f f' : RowList FieldRow) (fs : List ℕ) (p : ℕ) → f'.cap ≡ f.cap → Laid f.rows.now f.count f.cap fs 0 f'.rows.now f'.count p → Grown f f'
grown_laid f f' fs p e l = record { cap = e; long = l.long; low = l.low; same = l.same }

-- Rows that grew from t, and were cut back to its count, are those of t.
pub undone : {R : Type 0} (blank : R) (m : ℕ) (t t' t'' : RowList R) → Grown t t' → t.count ≡ m → t.count ≤ length t.rows.now
    → ((k : ℕ) → t.count ≤ k → get_or t.rows.now k blank ≡ blank)
    → ((k : ℕ) → t'.count ≤ k → get_or t'.rows.now k blank ≡ blank)
    → Cut blank m t' t'' → Same t'' t
undone {R} blank m t t' t'' g e l b b' c = record {
  rows = same_lists t''.rows.now t.rows.now (c.long ∙ g.long) (λ k d h. at_k k d (omega (arith, c.long, g.long)) (dec_lt k m) (dec_lt k t'.count));
  count = omega (arith, c.count, g.low);
  cap = c.cap ∙ g.cap;
}
  where
    old : (k : ℕ) (d : R) → k < length t.rows.now → m ≤ k → blank ≡ get_or t.rows.now k d
    old k d h n = sym (get_or_default t.rows.now k d blank h ∙ b k (omega arith))

    at_k : (k : ℕ) (d : R) → k < length t.rows.now → Dec (k < m) → Dec (k < t'.count) → get_or t''.rows.now k d ≡ get_or t.rows.now k d
    at_k k d h (yes y) z = c.below k d y ∙ g.same k d (omega arith)
    at_k k d h (no x) (yes z) = c.between k d (omega arith) z (omega (arith, g.long)) ∙ old k d h (omega arith)
    at_k k d h (no x) (no z) = c.above k d (omega arith) ∙ get_or_default t'.rows.now k d blank (omega (arith, g.long)) ∙ b' k (omega arith) ∙ old k d h (omega arith)

pub all_undone : (t : RowList TypeRow) (f : RowList FieldRow) (m n : ℕ) (t' : RowList TypeRow) (f' : RowList FieldRow) (t'' : RowList TypeRow) (f'' : RowList FieldRow)
    → Kept t.rows.now t.count f.rows.now f.count → t.count ≤ length t.rows.now → f.count ≤ length f.rows.now → t.count ≡ m → f.count ≡ n
    → Grew t f t' f' → Kept t'.rows.now t'.count f'.rows.now f'.count → Cut blank_type m t' t'' → Cut blank_field n f' f'' → Unchanged t f t'' f''
all_undone t f m n t' f' t'' f'' k u v x y g k' c d = record {
  types = undone blank_type m t t' t'' g.types x u k.sound.types_blank k'.sound.types_blank c;
  fields = undone blank_field n f f' f'' g.fields y v k.sound.fields_blank k'.sound.fields_blank d;
}

pub kept_same : (t : RowList TypeRow) (f : RowList FieldRow) (t' : RowList TypeRow) (f' : RowList FieldRow) → Unchanged t f t' f'
    → Kept t.rows.now t.count f.rows.now f.count → Kept t'.rows.now t'.count f'.rows.now f'.count
kept_same t f t' f' u k = rw (u.types.rows, u.types.count, u.fields.rows, u.fields.count) k

pub nodes_same : (t : RowList TypeRow) (f : RowList FieldRow) (t' : RowList TypeRow) (f' : RowList FieldRow) → Unchanged t f t' f' → nodes_of t' f' ≡ nodes_of t f
nodes_same t f t' f' u = rw (u.types.rows, u.types.count, u.fields.rows, u.fields.count)

pub tails_same : (f f' : RowList FieldRow) → Same f' f → tails_in f' ≡ tails_in f
tails_same f f' s = rw (s.rows, s.count)
