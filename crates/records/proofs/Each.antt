-- A loop that changes each element of a list by g: the list when those before the place i are done, its length, the element there, a turn, of which zs is the list and y the new element, and where no turn is left.
use Rattle.std.proofs.Common.{◌≡◌, ℕ, suc, ◌+◌, ◌-◌, ◌<◌, ◌≤◌, List, [], ◌∷◌, ◌++◌, map, length, get_or, set, take, drop, sym, refl, ap, ◌∙◌, add-one, arith, drop-cons, append_assoc, append-nil, drop_of_length-le, take_all, length-append, length-drop, length-take-le, take-suc}
use lib.Seq.{get_or_at, set_at}
use Rattle.std.proofs.lemmas.List.{length-map, map-append}

abbrev pub done : {X : Type 0} → (X → X) → ℕ → List X → List X
done g i xs = map g (take i xs) ++ drop i xs

module _ {X : Type 0} (g : X → X) (i : ℕ) (xs : List X) (d : X) (l : i < length xs) where
  front : length (map g (take i xs)) ≡ i
  front = length-map (take i xs) g ∙ length-take-le i xs (omega (arith, l))

  laid : done g i xs ≡ map g (take i xs) ++ get_or xs i d ∷ drop (suc i) xs
  laid = ap (λ zs. map g (take i xs) ++ zs) (drop-cons xs i d l)

  done-here : get_or (done g i xs) i d ≡ get_or xs i d
  done-here = ap (λ zs. get_or zs i d) laid ∙ get_or_at (map g (take i xs)) (get_or xs i d) (drop (suc i) xs) d i front

  next : set (done g i xs) i (g (get_or xs i d)) ≡ done g (i + 1) xs
  next =
      ap (λ zs. set zs i (g (get_or xs i d))) laid
      ∙ set_at (map g (take i xs)) (get_or xs i d) (drop (suc i) xs) (g (get_or xs i d)) i front
      ∙ sym (append_assoc (map g (take i xs)) (g (get_or xs i d) ∷ []) (drop (suc i) xs))
      ∙ ap (λ zs. zs ++ drop (suc i) xs) (sym (map-append g (take i xs) (get_or xs i d ∷ [])) ∙ ap (map g) (sym (take-suc xs i d l)))
      ∙ rw (add-one) refl

  module _ (zs : List X) (so_far : zs ≡ done g i xs) (y : X) (new : y ≡ g (get_or zs i d)) where
    pub done-new : y ≡ g (get_or xs i d)
    done-new = new ∙ ap (λ ws. g (get_or ws i d)) so_far ∙ ap g done-here

    pub done-turn : set zs i y ≡ done g (i + 1) xs
    done-turn = ap (λ ws. set ws i y) so_far ∙ ap (set (done g i xs) i) done-new ∙ next

pub done-long : {X : Type 0} (g : X → X) (i : ℕ) (xs : List X) → i ≤ length xs → length (done g i xs) ≡ length xs
done-long g i xs h =
    let front : length (map g (take i xs)) ≡ i = length-map (take i xs) g ∙ length-take-le i xs h in
    let rest : length (drop i xs) ≡ length xs - i = length-drop i xs in
    length-append (map g (take i xs)) (drop i xs) ∙ omega (arith, front, rest, h)

pub done-all : {X : Type 0} (g : X → X) (i : ℕ) (xs : List X) → length xs ≤ i → done g i xs ≡ map g xs
done-all g i xs h = rw (take_all i xs h, drop_of_length-le xs h, append-nil) refl
