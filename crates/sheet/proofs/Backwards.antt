-- A slice taken from its end.
use Rattle.std.proofs.Common.{◌≡◌, ◌+◌, ◌<◌, List, [], ◌∷◌, ◌++◌, length, get_or, take, sym, refl, ap, ◌∙◌, arith}
use Rattle.std.proofs.lemmas.List.{take_at, take-take, length_push}
use Rattle.std.proofs.lemmas.Grind.{common_steps}

-- what is left of xs, where its last item is y
pub record Last {A : Type 0} (xs left rest : List A) (y d : A) : Type 0 where
  pub long : length left ≡ length rest + 1
  pub below : length rest < length xs
  pub item : y ≡ get_or xs (length rest) d
  pub front : rest ≡ take (length rest) xs

pub last_of : {A : Type 0} (xs left rest : List A) (y d : A) → left ≡ take (length left) xs → left ≡ rest ++ y ∷ [] → Last xs left rest y d
last_of xs left rest y d h e = record {
  long = grind (arith, common_steps);
  below = grind (arith, common_steps);
  item = grind (arith, common_steps);
  front = sym (take_at rest (y ∷ []) (length rest) refl) ∙ ap (take (length rest)) (sym e ∙ h) ∙ take-take (length rest) (length left) xs (omega (arith, ap length e, length_push rest y));
}
