-- What holds after any history.
use Rattle.std.proofs.Common.{◌≡◌, ℕ, ◌+◌, ◌-◌, ◌<◌, ◌≤◌, ◌⊎◌, ◌↔◌, List, [], ◌∷◌, map, length, get_or, Result, sym, ap, ◌∙◌, inl, inr, arith}
use Rattle.std.proofs.lemmas.List.{get_or-map, get_or-take, get_or-append-add, length-take-le, take_all}
use Rattle.std.proofs.lemmas.Bool.{cases_lt}
use Rattle.std.proofs.lemmas.Bool.Decides.{nat_tests}
use Rattle.std.proofs.lemmas.Grind.{common_steps}
use Rattle.grammar.specs.declared.error.Refusal.{Refusal}
use Rattle.grammar.specs.Shape.{Text, basic_codes}
use Rattle.grammar.specs.Figures.{text_figures}
use Rattle.grammar.specs.Refusals.{Outcome}
use Rattle.book.specs.Plain.{Call, opened, known, single, text_of, tails_of}
use Rattle.book.proofs.Lists.{distinct_at}
use Rattle.book.proofs.Histories.{facts}
use Rattle.writers.specs.Rule.{accepted}
use Rattle.writers.specs.State.{State}
use Rattle.writers.proofs.Fronts.{longest}
use Rattle.layout.specs.declared.row.TypeRow.{TypeRow}
use Rattle.layout.specs.Kept.{types_in, figures_in}
use Rattle.layout.specs.Called.{Stands, Opened}
use Rattle.sheet.specs.declared.sheet.Sheet.{Sheet}
use Rattle.history.specs.declared.account.Account.{Account}
use Rattle.history.specs.Calls.{Recorded}
use Rattle.history.specs.Ran.{Ran}
use Rattle.history.specs.Account.{account_of, Accounted}
use Rattle.history.specs.History.{answers_of, book_after, OnSheet, InBook, Filed, Willing, Written}

-- The numbers of a book and of the rows that stand for it.
module _ (s : Sheet) (b : List Text) (rows : Stands s.types s.fields b) where
  known_both : (n : ℕ) → OnSheet s n ↔ InBook b n
  known_both n = (to, λ h. from h (cases_lt n 15))
    where
      to : OnSheet s n → InBook b n
      to (inl h) = omega arith
      to (inr (k, e, h)) = omega (arith, rows.types_count)

      from : InBook b n → (n < 15) ⊎ (15 ≤ n) → OnSheet s n
      from h (inl l) = inl (omega arith)
      from h (inr l) = inr (n - 15, omega arith, omega (arith, rows.types_count))

  stored : (k : ℕ) (d : TypeRow) → k < s.types.count → (get_or s.types.rows.now k d).figures ≡ text_figures (text_of b (15 + k))
  stored k d h =
      let l : length (types_in s.types) ≡ s.types.count = length-take-le s.types.count s.types.rows.now (omega arith) in
      grind (arith, rows.types_count, rows.type_figures, get_or-take s.types.count s.types.rows.now k d, get_or-map figures_in (types_in s.types) k d (text_figures []), get_or-map text_figures b k [] (text_figures []), get_or-append-add ([] ∷ map single basic_codes) b k [])

-- A sheet that was opened on so many rows of each kind, and on which the calls were made.
module _ (types fields : ℕ) (cs : List Call) (s₀ s : Sheet) (old new : List (Result ℕ Refusal)) (o : Opened types fields s₀.types s₀.fields) (r : Ran cs s₀ s old new) where
  pub answers_kept : Recorded (answers_of types fields cs) old new
  answers_kept = rw (o.limits, o.book) at r.answers

  pub filed : Filed types fields cs s
  filed =
      let book = rw (o.limits, o.book) at r.book in
      let rows : Stands s.types s.fields (book_after types fields cs) = rw book at r.stands in
      let after = facts (opened types fields) cs in
      record {
        book = book;
        limits = r.limits ∙ o.limits;
        known = known_both s (book_after types fields cs) rows;
        answered = λ n i. (known_both s (book_after types fields cs) rows n).1 (after.numbers n i);
        figures = stored s (book_after types fields cs) rows;
        containers = record { list = book_after types fields cs; once = after.distinct; all = after.texts; long = sym rows.types_count };
        tails = record { list = tails_of (book_after types fields cs); once = after.distinct_tails; all = after.tails; long = sym rows.fields_count };
        rows = rows;
        types_long = r.types_long ∙ o.types_long;
        fields_long = r.fields_long ∙ o.fields_long;
      }

-- An empty writer that declines none of the bytes of a text takes it whole.
willing_all : (s : State) (w : List ℕ) → Willing s w → accepted s.rule s.taken w ≡ length w
willing_all s w h = sym ((longest s.rule s.taken w).1 (length w) (record {
  within = omega arith;
  each = λ i l. grind (arith, common_steps, h.empty, h.takes i);
  ends = λ l. absurd (omega arith);
}))

pub whole_text_is : (b : List Text) (n : ℕ) (a : Outcome Account) (old new : State) → Accounted b n a old new → InBook b n → Willing old (text_of b n) → new.taken ≡ text_of b n
unfolding account_of
whole_text_is b n a old new x k h = grind (arith, common_steps, nat_tests, x.answer, x.took.taken, h.empty, willing_all old (text_of b n) h, take_all (length (text_of b n)) (text_of b n))

pub written : (types fields : ℕ) (cs : List Call) (m n : ℕ) (x y : Outcome Account) (v v' w w' : State)
    → Accounted (book_after types fields cs) m x v v' → Accounted (book_after types fields cs) n y w w' → Written (book_after types fields cs) m n v v' w w'
written types fields cs m n x y v v' w w' p q = record {
  apart = λ i j h k.
      let b = book_after types fields cs in
      let first = whole_text_is b m x v v' p i h in
      let second = whole_text_is b n y w w' q j k in
      record {
        first = first;
        second = second;
        same = (λ e. distinct_at (known b) m n [] (facts (opened types fields) cs).apart i j (sym first ∙ e ∙ second), λ e. first ∙ ap (text_of b) e ∙ sym second);
      };
}
