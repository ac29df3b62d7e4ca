-- What a proof by hand has at exit of a parameter that its function handed on to a callee: what a contract says of the last value, and nothing else. Of numbers, structs, a `&T` and a `&[T]` that is nothing; of a `&mut` it is what the callee said.
-- So a thin function gives its callee's last values back as they stand. The laws take `Logic`; the rest assumes nothing.
use Prim.Native.Nat.{ℕ}
use mathlib.Core.List.{List, [], ◌∷◌}
use seplogic.Ra.Ura.{Ura}
use types.Logic.{Logic, sem}
use denote.Exit.{Kept, left}
use denote.Signature.{Slot}
use denote.Triple.End.{Kepts}
use denote.Triple.Walked.{Stay, Stays, Goes, AllGo}

-- one parameter, and a list of them
abbrev pub told : {n : ℕ} (s : Slot n) (k : Kept) → Stay s k
told s k = record { fit = λ κs x f. Unit {0}; has = λ κs x f vs. left ((s.row κs).exit k) x f }

abbrev pub tolds : {n : ℕ} (ss : List (Slot n)) (ks : Kepts ss) → Stays ss ks
tolds [] ks = tt
tolds (s ∷ ss) ks = (told s ks.0, tolds ss ks.1)

-- the law of each
module _ {M : Type 1} {𝓤 : Ura M} (𝓛 : Logic 𝓤) (n : ℕ) where
  pub goes_told : (s : Slot n) (k : Kept) → Goes 𝓛 n s k (told s k)
  goes_told s k κs x f vs fits = 𝓛.laws.⇛_intro (sem 𝓛 (left ((s.row κs).exit k) x f))

  pub all_told : (ss : List (Slot n)) (ks : Kepts ss) → AllGo 𝓛 n ss ks (tolds ss ks)
  all_told [] ks = tt
  all_told (s ∷ ss) ks = (goes_told s ks.0, all_told ss ks.1)

-- the parameters behind the first
abbrev pub behind : {n : ℕ} → List (Slot n) → List (Slot n)
behind [] = []
behind (s ∷ ss) = ss
