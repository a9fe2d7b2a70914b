-- A sheet that was opened holds nothing.
use Rattle.std.proofs.Common.{◌≡◌, ℕ, ◌<◌, min, List, [], map, length, get_or, take, ap, ◌∙◌}
use Rattle.rows.specs.declared.RowList.{RowList}
use Rattle.book.specs.Plain.{most_types, most_fields}
use Rattle.book.specs.Nodes.{texts_of}
use Rattle.layout.specs.declared.row.TypeRow.{TypeRow}
use Rattle.layout.specs.declared.row.FieldRow.{FieldRow}
use Rattle.layout.specs.Tails.{blank_field, field_key}
use Rattle.layout.specs.Kept.{nodes, fields_in, type_key, figures_in, blank_type}
use Rattle.layout.specs.Called.{Opened}

none_in : {R : Type 0} (l : RowList R) → l.count ≡ 0 → take l.count l.rows.now ≡ []
none_in l e = ap (λ (n : ℕ). take n l.rows.now) e

pub nothing : (types fields : ℕ) (t : RowList TypeRow) (f : RowList FieldRow)
    → t.count ≡ 0 → t.cap ≡ min types most_types → length t.rows.now ≡ types → ((k : ℕ) (d : TypeRow) → k < length t.rows.now → get_or t.rows.now k d ≡ blank_type)
    → f.count ≡ 0 → f.cap ≡ min fields most_fields → length f.rows.now ≡ fields → ((k : ℕ) (d : FieldRow) → k < length f.rows.now → get_or f.rows.now k d ≡ blank_field)
    → Opened types fields t f
nothing types fields t f tn tc tl tb fn fc fl fb = record {
  book = ap (λ (L : List TypeRow). texts_of (nodes (fields_in f) L)) (none_in t tn);
  limits = ap (λ (n : ℕ). record { types = n; fields = f.cap }) tc ∙ ap (λ (n : ℕ). record { types = min types most_types; fields = n }) fc;
  types_long = tl;
  fields_long = fl;
  stands = record {
    types_count = tn;
    type_keys = ap (map type_key) (none_in t tn);
    type_figures = ap (map figures_in) (none_in t tn);
    types_blank = λ k d h l. tb k d l;
    fields_count = fn;
    field_keys = ap (map field_key) (none_in f fn);
    fields_blank = λ k d h l. fb k d l;
  };
}
