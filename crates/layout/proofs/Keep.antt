-- What a sheet keeps has one proof, holds of an empty sheet, and goes on with one row more.
use Rattle.std.proofs.Common.{◌≡◌, ℕ, ◌+◌, ◌<◌, List, [], ◌∷◌, ◌++◌, length, get_or, sym, refl, ap, ◌∙◌, subst, add-zero, arith}
use mathlib.Core.Logic.{∥∥₁_elim}
use native.Mathlib.Decide.{dec_lt}
use Rattle.std.proofs.lemmas.List.{length_push, get_or_push, get_or_append_left, map_push, length-map}
use Rattle.std.proofs.Props.{props}
use Rattle.std.proofs.lemmas.Grind.{common_steps}
use Rattle.grammar.specs.declared.figures.Figures.{Figures}
use Rattle.book.specs.Nodes.{Node, array, maybe, dict, structure, node_figures, figures_from, Parts, Known, Chain}
use Rattle.book.proofs.Figured.{figures_push}
use Rattle.layout.specs.declared.row.TypeRow.{TypeRow}
use Rattle.layout.specs.declared.row.FieldRow.{FieldRow}
use Rattle.layout.specs.Tails.{blank_field, row_tails, row_tails_from}
use Rattle.book.specs.Rows.{node_key}
use Rattle.layout.specs.Kept.{Good, Kept, nodes, node_of, type_key, figures_in, blank_type}

-- It has one proof.
parts_prop : (m : ℕ) (ns : List ℕ) → IsProp (Parts m ns)
parts_prop m [] = Prim.hlevel props
parts_prop m (n ∷ ns) = Prim.hlevel (props, parts_prop m ns)

known_prop : (m : ℕ) (x : Node) → IsProp (Known m x)
known_prop m (array n) = Prim.hlevel props
known_prop m (maybe n) = Prim.hlevel props
known_prop m (dict k v) = Prim.hlevel props
known_prop m (structure []) = Prim.hlevel props
known_prop m (structure (n ∷ ns)) = Prim.hlevel (props, parts_prop m ns)

chain_prop : (m : ℕ) (b : List Node) → IsProp (Chain m b)
chain_prop m [] = Prim.hlevel props
chain_prop m (x ∷ b) = Prim.hlevel (props, known_prop m x, chain_prop (m + 1) b)

-- what the ghost field of a sheet holds, taken out
pub out : {types : List TypeRow} {tn : ℕ} {fields : List FieldRow} {fn : ℕ} → ∥ Kept types tn fields fn ∥₁ → Kept types tn fields fn
out h = ∥∥₁_elim h (Prim.hlevel (props, chain_prop)) (λ k. k)

blank_all : {R : Type 0} (rows : List R) (d : R) → ((k : ℕ) (e : R) → k < length rows → get_or rows k e ≡ d) → (k : ℕ) → get_or rows k d ≡ d
blank_all rows d h k = grind (arith, common_steps, h k d)

empty : (types : List TypeRow) (fields : List FieldRow) → ((k : ℕ) → get_or types k blank_type ≡ blank_type) → ((k : ℕ) → get_or fields k blank_field ≡ blank_field) → Kept types 0 fields 0
unfolding figures_from row_tails_from
empty types fields t f = record {
  sound = record {
    good = record {
      keys = λ k h. absurd (omega arith);
      apart = λ j k a b e. omega arith;
      figures = refl;
      chain = tt;
      fields = record { keys = λ k h. absurd (omega arith); apart = λ j k a b e. omega arith; next = λ k h. omega arith };
    };
    types_blank = λ k h. t k;
    fields_blank = λ k h. f k;
  };
  tails = refl;
}

pub opened : (types : List TypeRow) (tn : ℕ) (fields : List FieldRow) (fn : ℕ) → tn ≡ 0 → fn ≡ 0
    → ((k : ℕ) (e : TypeRow) → k < length types → get_or types k e ≡ blank_type) → ((k : ℕ) (e : FieldRow) → k < length fields → get_or fields k e ≡ blank_field)
    → Kept types tn fields fn
opened types tn fields fn e f t u = rw (e, f) (empty types fields (blank_all types blank_type t) (blank_all fields blank_field u))

-- what holds of each item and of one more holds of each of the longer list
pub each_push : {A : Type 0} (P : ℕ → A → Type 0) (d : A) (xs : List A) (y : A)
    → ((k : ℕ) → k < length xs → P k (get_or xs k d)) → P (length xs) y
    → (k : ℕ) → k < length (xs ++ y ∷ []) → P k (get_or (xs ++ y ∷ []) k d)
each_push {A} P d xs y each here k h = go (dec_lt k (length xs))
  where
    go : Dec (k < length xs) → P k (get_or (xs ++ y ∷ []) k d)
    go (yes l) = subst (P k) (sym (get_or_append_left xs (y ∷ []) d k l)) (each k l)
    go (no n) =
        let e : length xs ≡ k = omega (arith, length_push xs y) in
        subst (P k) (sym (get_or_push xs y d k e)) (subst (λ (j : ℕ). P j y) e here)

chain_push : (m : ℕ) (b : List Node) (x : Node) → Chain m b → Known (m + length b) x → Chain m (b ++ x ∷ [])
chain_push m [] x c k = (subst (λ (n : ℕ). Known n x) (add-zero m) k, tt)
chain_push m (y ∷ b) x c k = (c.0, chain_push (m + 1) b x c.1 (subst (λ (n : ℕ). Known n x) (omega arith) k))

pub good_push : (L : List TypeRow) (F : List FieldRow) (r : TypeRow) → Good L F
    → type_key r ≡ node_key (row_tails F) (node_of F r)
    → ((k : ℕ) → k < length L → type_key (get_or L k blank_type) ≡ type_key r → ⊥)
    → r.figures ≡ node_figures (figures_from [] (nodes F L)) (node_of F r)
    → Known (length L) (node_of F r)
    → Good (L ++ r ∷ []) F
good_push L F r g coded absent figure known = record {
  keys = each_push (λ k x. type_key x ≡ node_key (row_tails F) (node_of F x)) blank_type L r g.keys coded;
  apart = λ j k l h. each_push (λ k x. j < k → type_key (get_or (L ++ r ∷ []) j blank_type) ≡ type_key x → ⊥) blank_type L r
      (λ k h l e. g.apart j k l h (ap type_key (sym (get_or_append_left L (r ∷ []) blank_type j (omega arith))) ∙ e))
      (λ h e. absent j h (ap type_key (sym (get_or_append_left L (r ∷ []) blank_type j h)) ∙ e)) k h l;
  figures =
      map_push figures_in L r ∙ ap (λ (s : List Figures). s ++ r.figures ∷ []) g.figures
      ∙ ap (λ (f : Figures). figures_from [] (nodes F L) ++ f ∷ []) figure
      ∙ sym (figures_push [] (nodes F L) (node_of F r)) ∙ sym (ap (figures_from []) (map_push (node_of F) L r));
  chain = subst (Chain 0) (sym (map_push (node_of F) L r))
      (chain_push 0 (nodes F L) (node_of F r) g.chain (subst (λ (n : ℕ). Known n (node_of F r)) (omega (arith, length-map L (node_of F))) known));
  fields = g.fields;
}
