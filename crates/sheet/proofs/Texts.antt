-- A sheet keeps a good book, and its rows are those of the texts.
use Rattle.std.proofs.Common.{◌≡◌, ℕ, ◌<◌, List, [], map, length, sym, ap, ◌∙◌, subst, arith}
use Rattle.std.proofs.lemmas.List.{get_or_default, get_or-map, length-map, length-take-le, same_lists}
use Rattle.book.specs.Plain.{Answer, Call, array, maybe, dict, structure}
use Rattle.book.specs.Nodes.{Node, shapes_from, texts_of, tails_of}
use Rattle.book.specs.Makers.{array_call, maybe_call, dict_call, structure_call}
use Rattle.book.specs.Rows.{node_key, tail_key}
use Rattle.book.specs.Agree.{Good, Room}
use Rattle.book.proofs.Places.{distinct_by_place}
use Rattle.book.proofs.Agree.{good_sound}
use Rattle.book.proofs.Tails.{tails_count}
use Rattle.book.proofs.TextFigures.{texts_figures}
use Rattle.book.proofs.Rows.{type_keys, field_keys}
use Rattle.book.proofs.Questions.{texts_count}
use Rattle.book.proofs.MakersTold.{Told, array_told, maybe_told, dict_told, structure_told}
use Rattle.sheet.specs.declared.sheet.Sheet.{Sheet}
use Rattle.layout.specs.Tails.{blank_field, field_key}
use Rattle.layout.specs.Kept.{Kept, nodes_of, tails_in, types_in, fields_in, node_of, type_key, blank_type}
use Rattle.layout.specs.Made.{Made, with_tails}
use Rattle.layout.specs.Called.{book_of, limits_of, Stands, Called}
use Rattle.layout.proofs.Keep.{out}
use Rattle.layout.proofs.Laying.{tails_long}
use Rattle.layout.proofs.Step.{some_node, node_at, nodes_long}

module _ (s : Sheet) where
  kept : Kept s.types.rows.now s.types.count s.fields.rows.now s.fields.count
  kept = out s.good

  types_in_are : length (types_in s.types) ≡ s.types.count
  types_in_are = length-take-le s.types.count s.types.rows.now (omega arith)

  fields_in_are : length (fields_in s.fields) ≡ s.fields.count
  fields_in_are = length-take-le s.fields.count s.fields.rows.now (omega arith)

  pub count : length (nodes_of s.types s.fields) ≡ s.types.count
  count = nodes_long s.types.rows.now s.types.count s.fields.rows.now s.fields.count (omega arith)

  pub good_book : Good (nodes_of s.types s.fields)
  good_book = record {
    chain = kept.sound.good.chain;
    once = distinct_by_place (nodes_of s.types s.fields) some_node
        (λ j k l h e. let g = kept.sound.good in let kl : k < length (types_in s.types) = omega (arith, count, types_in_are) in
        g.apart j k l kl
        (g.keys j (omega arith)
        ∙ ap (node_key (tails_in s.fields)) (sym (node_at (types_in s.types) (fields_in s.fields) j some_node (omega arith)) ∙ e ∙ node_at (types_in s.types) (fields_in s.fields) k some_node kl)
        ∙ sym (g.keys k kl)));
  }

  tails : length (tails_of (nodes_of s.types s.fields)) ≡ s.fields.count
  tails = sym (ap length kept.tails) ∙ tails_long (fields_in s.fields) ∙ fields_in_are

  pub room_book : Room (limits_of s.types s.fields) (nodes_of s.types s.fields)
  room_book = record { types = omega (arith, count); fields = omega (arith, tails) }

  type_keys_of : map type_key (types_in s.types) ≡ map (node_key (tails_in s.fields)) (nodes_of s.types s.fields)
  type_keys_of = same_lists (map type_key (types_in s.types)) (map (node_key (tails_in s.fields)) (nodes_of s.types s.fields))
      (length-map (types_in s.types) type_key ∙ sym (length-map (types_in s.types) (node_of (fields_in s.fields))) ∙ sym (length-map (nodes_of s.types s.fields) (node_key (tails_in s.fields))))
      (λ k d h. let l : k < length (types_in s.types) = omega (arith, length-map (types_in s.types) type_key) in
      get_or-map type_key (types_in s.types) k blank_type d l ∙ kept.sound.good.keys k l
      ∙ sym (get_or-map (node_key (tails_in s.fields)) (nodes_of s.types s.fields) k some_node d (omega (arith, count, types_in_are))
      ∙ ap (node_key (tails_in s.fields)) (node_at (types_in s.types) (fields_in s.fields) k some_node l)))

  field_keys_of : map field_key (fields_in s.fields) ≡ map (tail_key (tails_in s.fields)) (tails_in s.fields)
  field_keys_of = same_lists (map field_key (fields_in s.fields)) (map (tail_key (tails_in s.fields)) (tails_in s.fields))
      (length-map (fields_in s.fields) field_key ∙ sym (tails_long (fields_in s.fields)) ∙ sym (length-map (tails_in s.fields) (tail_key (tails_in s.fields))))
      (λ k d h. let l : k < length (fields_in s.fields) = omega (arith, length-map (fields_in s.fields) field_key) in
      get_or-map field_key (fields_in s.fields) k blank_field d l ∙ kept.sound.good.fields.keys k l
      ∙ sym (get_or-map (tail_key (tails_in s.fields)) (tails_in s.fields) k [] d (omega (arith, tails_long (fields_in s.fields)))))

  pub stands : Stands s.types s.fields (book_of s.types s.fields)
  stands = record {
    types_count = sym count ∙ sym (texts_count (nodes_of s.types s.fields) good_book);
    type_keys = type_keys_of ∙ ap (λ (T : List (List ℕ)). map (node_key T) (nodes_of s.types s.fields)) kept.tails ∙ sym (type_keys (nodes_of s.types s.fields) good_book);
    type_figures = kept.sound.good.figures ∙ sym (texts_figures (nodes_of s.types s.fields) good_book);
    types_blank = λ k d h l. get_or_default s.types.rows.now k d blank_type l ∙ kept.sound.types_blank k h;
    fields_count = sym tails ∙ tails_count (nodes_of s.types s.fields) (shapes_from [] (nodes_of s.types s.fields)) (good_sound (nodes_of s.types s.fields) good_book);
    field_keys = field_keys_of ∙ ap (λ (T : List (List ℕ)). map (tail_key T) T) kept.tails ∙ sym (field_keys (nodes_of s.types s.fields) good_book);
    fields_blank = λ k d h l. get_or_default s.fields.rows.now k d blank_field l ∙ kept.sound.fields_blank k h;
  }

-- What is made over numbers is the plain book's call.
module _ (s s' : Sheet) (r : Answer) where
  called_by : (c : Call) (said : Answer × List Node × List (List ℕ)) → Told (limits_of s.types s.fields) (nodes_of s.types s.fields) c (said.0, said.1)
      → Made s.types s.fields s'.types s'.fields r said → Called s.types s.fields s'.types s'.fields r c
  called_by c said told m = record {
    answer = m.answer ∙ told.answer;
    book = ap texts_of m.nodes ∙ told.texts;
    limits = ap (λ (n : ℕ). record { types = n; fields = s'.fields.cap }) m.grew.types.cap ∙ ap (λ (n : ℕ). record { types = s.types.cap; fields = n }) m.grew.fields.cap;
    types_long = m.grew.types.long;
    fields_long = m.grew.fields.long;
    stands = stands s';
    unchanged = m.unchanged;
  }

  pub called_array : (n : ℕ) → Made s.types s.fields s'.types s'.fields r (with_tails (tails_in s.fields) (array_call s.types.cap (nodes_of s.types s.fields) n))
      → Called s.types s.fields s'.types s'.fields r (array n)
  called_array n m = called_by (array n) _ (array_told (limits_of s.types s.fields) (nodes_of s.types s.fields) (good_book s) (room_book s) n) m

  pub called_maybe : (n : ℕ) → Made s.types s.fields s'.types s'.fields r (with_tails (tails_in s.fields) (maybe_call s.types.cap (nodes_of s.types s.fields) n))
      → Called s.types s.fields s'.types s'.fields r (maybe n)
  called_maybe n m = called_by (maybe n) _ (maybe_told (limits_of s.types s.fields) (nodes_of s.types s.fields) (good_book s) (room_book s) n) m

  pub called_dict : (k v : ℕ) → Made s.types s.fields s'.types s'.fields r (with_tails (tails_in s.fields) (dict_call s.types.cap (nodes_of s.types s.fields) k v))
      → Called s.types s.fields s'.types s'.fields r (dict k v)
  called_dict k v m = called_by (dict k v) _ (dict_told (limits_of s.types s.fields) (nodes_of s.types s.fields) (good_book s) (room_book s) k v) m

  pub called_structure : (fs : List ℕ) → Made s.types s.fields s'.types s'.fields r (structure_call s.types.cap s.fields.cap (nodes_of s.types s.fields) (tails_in s.fields) fs)
      → Called s.types s.fields s'.types s'.fields r (structure fs)
  called_structure fs m =
      called_by (structure fs) (structure_call s.types.cap s.fields.cap (nodes_of s.types s.fields) (tails_of (nodes_of s.types s.fields)) fs)
      (structure_told (limits_of s.types s.fields) (nodes_of s.types s.fields) (good_book s) (room_book s) fs).0
      (subst (λ (T : List (List ℕ)). Made s.types s.fields s'.types s'.fields r (structure_call s.types.cap s.fields.cap (nodes_of s.types s.fields) T fs)) (kept s).tails m)
