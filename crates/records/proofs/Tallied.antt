-- What is carried after each element of a list was counted into it, and one more element.
use Rattle.std.proofs.Common.{◌≡◌, List, [], ◌∷◌, ◌++◌, refl}

abbrev pub tallied : {X D : Type 0} → (X → D → D) → List X → D → D
tallied E [] d = d
tallied E (x ∷ xs) d = tallied E xs (E x d)

pub tallied-more : {X D : Type 0} (E : X → D → D) (xs : List X) (x : X) (d : D) → tallied E (xs ++ x ∷ []) d ≡ E x (tallied E xs d)
tallied-more E [] x d = refl
tallied-more E (y ∷ ys) x d = tallied-more E ys x (E y d)
