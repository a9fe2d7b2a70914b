-- A container that is no structure, entered.
use Rattle.std.proofs.Common.{◌≡◌, ℕ, ◌+◌, ◌<◌, ◌≤◌, [], length, Some, None, Option, sym, refl, ◌∙◌, inl, inr, arith, MatchOption}
use Rattle.std.proofs.lemmas.List.{length-set}
use Rattle.grammar.specs.Refusals.{accepted, refused}
use Rattle.rows.specs.declared.RowList.{RowList}
use Rattle.rows.specs.Found.{Refused, Place}
use Rattle.book.specs.Nodes.{fields_of}
use Rattle.book.specs.Makers.{placed}
use Rattle.layout.specs.declared.row.TypeRow.{TypeRow}
use Rattle.layout.specs.declared.row.FieldRow.{FieldRow}
use Rattle.layout.specs.Kept.{Kept, Fit, nodes_of, tails_in, types_in, fields_in, node_of, type_key}
use Rattle.layout.specs.Grown.{Same}
use Rattle.layout.specs.Made.{Made, with_tails}
use Rattle.layout.proofs.Step.{placed_sound, placed_told, placed_tails, refused_told}
use Rattle.layout.proofs.Undo.{same_refl, grown_same, grown_by}

module _ (t t' : RowList TypeRow) (f : RowList FieldRow) (r : TypeRow)
    (h : t.count ≤ t.cap) (u : t.cap ≤ length t.rows.now)
    (k : Kept t.rows.now t.count f.rows.now f.count) (fit : Fit (types_in t) (fields_in f) r) where
  -- the sheet is kept, whatever the answer
  pub after : (o : Option ℕ) → fields_of (node_of (fields_in f) r) ≡ []
      → MatchOption o (Refused type_key t.rows.now t.count t.cap r t'.rows.now t'.count) (λ i. Place type_key t.rows.now t.count t.cap r t'.rows.now t'.count i)
      → Kept t'.rows.now t'.count f.rows.now f.count × (t'.count ≤ t.cap) × (t.cap ≤ length t'.rows.now)
  after None e p = (rw (p.rows, p.count) k, omega (arith, p.count), rw p.rows u)
  after (Some i) e p = (kept p, count p, long p)
    where
      kept : Place type_key t.rows.now t.count t.cap r t'.rows.now t'.count i → Kept t'.rows.now t'.count f.rows.now f.count
      kept p = record {
        sound = placed_sound t.rows.now t.count f.rows.now f.count t.cap r t'.rows.now t'.count i (omega arith) k.sound fit p;
        tails = k.tails ∙ sym (placed_tails t.rows.now t.count f.rows.now f.count t.cap r t'.rows.now t'.count i (omega arith) k.sound fit p e);
      }

      count : Place type_key t.rows.now t.count t.cap r t'.rows.now t'.count i → t'.count ≤ t.cap
      count (inl p) = omega (arith, p.count)
      count (inr p) = omega (arith, p.count, p.room)

      long : Place type_key t.rows.now t.count t.cap r t'.rows.now t'.count i → t.cap ≤ length t'.rows.now
      long (inl p) = rw p.rows u
      long (inr p) = rw (p.rows, length-set) u

  pub made_some : (i : ℕ) → t'.cap ≡ t.cap → Place type_key t.rows.now t.count t.cap r t'.rows.now t'.count i
      → Made t f t' f (accepted (15 + i)) (with_tails (tails_in f) (placed t.cap (nodes_of t f) (node_of (fields_in f) r)))
  made_some i e p =
      let told = placed_told t.rows.now t.count f.rows.now f.count t.cap r t'.rows.now t'.count i (omega arith) k.sound fit p in
      record {
        answer = told.answer;
        nodes = told.nodes;
        tails = refl;
        grew = record { types = grown_by type_key t t' r i (omega arith) e p; fields = grown_same f f (same_refl f) };
        unchanged = tt;
      }

  pub made_none : t'.cap ≡ t.cap → Refused type_key t.rows.now t.count t.cap r t'.rows.now t'.count
      → Made t f t' f (refused 8 []) (with_tails (tails_in f) (placed t.cap (nodes_of t f) (node_of (fields_in f) r)))
  made_none e p =
      let told = refused_told t.rows.now t.count f.rows.now f.count t.cap r t'.rows.now t'.count 0 (omega arith) k.sound fit u p in
      let s : Same t' t = record { rows = p.rows; count = p.count; cap = e } in
      record {
        answer = told.answer;
        nodes = told.nodes;
        tails = refl;
        grew = record { types = grown_same t t' s; fields = grown_same f f (same_refl f) };
        unchanged = record { types = s; fields = same_refl f };
      }

pub place_below : (t t' : RowList TypeRow) (r : TypeRow) (i : ℕ) → t.count ≤ t.cap → Place type_key t.rows.now t.count t.cap r t'.rows.now t'.count i → i < t.cap
place_below t t' r i h (inl p) = omega (arith, p.below)
place_below t t' r i h (inr p) = omega (arith, p.place, p.room)
