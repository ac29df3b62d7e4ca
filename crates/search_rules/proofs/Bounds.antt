-- How many asks a search makes at most, and how long its list is at most. Assumes nothing.
use Prim.Native.Nat.{ℕ, zero, suc, ◌+◌, ◌*◌, ◌≤◌}
use mathlib.Core.Path.{◌≡◌, refl}
use mathlib.Core.Bool.{Bool, true, false}
use mathlib.Core.List.{List, [], ◌∷◌, ◌++◌}
use Rattle.std.specs.Prelude.{Option, None, Some}
use Rattle.std.proofs.lemmas.Option.{none-some, same_Some}
use native.Mathlib.Nat.{mul-le-mul_right, suc-mul, mul-add}
use native.Mathlib.Omega.{arith}
use lib.Dec.{eqb}
use lib.ListN.{length, length-append}
use Rattle.basics.specs.Edits.{Edit}
use Rattle.basics.proofs.Bools.{either}
use Rattle.rules.specs.Board.{Board}
use Rattle.rules.specs.Roster.{Roster, after}
use Rattle.search_rules.specs.Blockers.{is_free, first_required}
use Rattle.search_rules.specs.Search.{Terms, Request, Reply, miss, hit, edit, stops, displaced, enter, closes, or_else, walk, offers, closed, make_way, descend, within, try_row, holds_already, discover, search}
use Rattle.search_rules.specs.Ceiling.{try_ceiling, ask_ceiling}
use Rattle.search_rules.specs.Lifted.{Lifted, Plain}
use Rattle.search_rules.proofs.Lifting.{lifted_none, lifted-more, lifted_few}

-- a law of replies that holds of each end of a try and of a walk holds of the whole
module _ (B : Board) (h : Roster) (q : Terms) (P : Reply → Type 0) where
  enter-cases : (r v : ℕ) (L : List Edit) (n : ℕ) (deeper : List Edit → Reply) → P (miss (n + 1))
      → (B.legal r v ≡ true → P (hit (n + 1) (displaced B q.displace h r v L ++ (edit r v ∷ []))))
      → (B.legal r v ≡ true → P (deeper (displaced B q.displace h r v L))) → P (enter B h q r v L n deeper)
  unfolding enter
  enter-cases r v L n deeper a b c =
      either (stops q (n + 1))
      (λ t. rw t a)
      (λ f. rw f (either (B.legal r v)
      (λ t. rw t (either (is_free B (after h (displaced B q.displace h r v L)) r v) (λ y. rw y (b t)) (λ x. rw x (c t))))
      (λ n. rw n a)))

-- ---- asks

module _ (B : Board) (h : Roster) (q : Terms) (c : ℕ) (few : (b : ℕ) → length (offers B q b) ≤ c) where
  walk_asks : (held t : ℕ) (try : ℕ → ℕ → Reply) → ((a m : ℕ) → (try a m).asks ≤ m + t) → (xs : List ℕ) (n : ℕ)
      → (walk q held try xs n).asks ≤ n + length xs * (1 + t)
  unfolding walk or_else
  walk_asks held t try e [] n = omega arith
  walk_asks held t try e (a ∷ more) n =
      let later = walk_asks held t try e more in
      let product = suc-mul (length more) (1 + t) in
      either (stops q (n + 1))
      (λ y. rw y (omega (arith, product)))
      (λ f. rw f (either (eqb a held)
      (λ y. rw y (omega (arith, later (n + 1), product)))
      (λ o. rw o (tail (try a (n + 1)).found product (later (try a (n + 1)).asks)))))
    where
      tail : (o : Option (List Edit)) → suc (length more) * (1 + t) ≡ length more * (1 + t) + (1 + t)
          → (walk q held try more (try a (n + 1)).asks).asks ≤ (try a (n + 1)).asks + length more * (1 + t)
          → (elim o as (λ _. Reply) [ None ↦ walk q held try more (try a (n + 1)).asks | Some L ↦ hit (try a (n + 1)).asks L ]).asks ≤ n + suc (length more) * (1 + t)
      tail None p l = omega (arith, p, l, e a (n + 1))
      tail (Some L) p l = omega (arith, p, l, e a (n + 1))

  descend_asks : (t : ℕ) (try : ℕ → ℕ → List Edit → ℕ → Reply) (visiting : ℕ → Bool) (r v n : ℕ) (L : List Edit)
      → ((b a : ℕ) (K : List Edit) (m : ℕ) → (try b a K m).asks ≤ m + t)
      → (descend B h q try visiting r v n L).asks ≤ n + c * (1 + t)
  unfolding descend make_way closed
  descend_asks t try visiting r v n L e =
      either (visiting r) (λ y. rw y (omega arith)) (λ f. rw f (go (first_required B (after h L) r v)))
    where
      go : (o : Option ℕ) → (make_way B h q try r v n L o).asks ≤ n + c * (1 + t)
      go None = omega arith
      go (Some b) =
          omega (arith, walk_asks (after h L b) t (λ (a m : ℕ). closed B h r v (try b a L m)) (λ a m. e b a L m) (offers B q b) n, mul-le-mul_right (1 + t) (few b))

  pub try_asks : (d : ℕ) (visiting : ℕ → Bool) (r v : ℕ) (L : List Edit) (n : ℕ) → (try_row B h q d visiting r v L n).asks ≤ n + try_ceiling c d
  unfolding try_row try_ceiling
  try_asks zero visiting r v L n =
      enter-cases B h q (λ (a : Reply). a.asks ≤ n + 1) r v L n _ (omega arith) (λ _. omega arith) (λ _. omega arith)
  try_asks (suc d) visiting r v L n =
      enter-cases B h q (λ (a : Reply). a.asks ≤ n + (1 + c + c * try_ceiling c d)) r v L n _ (omega arith) (λ _. omega arith)
      (λ _. omega (arith, descend_asks (try_ceiling c d) (try_row B h q d (within r visiting)) visiting r v (n + 1) (displaced B q.displace h r v L) (λ b a K m. try_asks d (within r visiting) b a K m), mul-add c 1 (try_ceiling c d)))

-- ---- lists

-- a list that was found is not empty, and has at most k edits
abbrev pub Short : ℕ → Reply → Type 0
Short k a = (L : List Edit) → a.found ≡ Some L → (1 ≤ length L) × (length L ≤ k)

missed_short : (k n : ℕ) → Short k (miss n)
missed_short k n L e = absurd (none-some _ e)

hit_short : (k n : ℕ) (L : List Edit) (e : Edit) → length L + 1 ≤ k → Short k (hit n (L ++ (e ∷ [])))
hit_short k n L e l M f =
    rw (← same_Some (L ++ (e ∷ [])) M f) (omega (arith, length-append L (e ∷ [])), omega (arith, length-append L (e ∷ [])))

module _ (B : Board) (h : Roster) (q : Terms) where
  closed_short : (k r v : ℕ) (a : Reply) → Short k a → Short (k + 1) (closed B h r v a)
  unfolding closed closes
  closed_short k r v a s M e = go a.found s e
    where
      go : (o : Option (List Edit)) → ((L : List Edit) → o ≡ Some L → (1 ≤ length L) × (length L ≤ k)) → closes B h r v o ≡ Some M → (1 ≤ length M) × (length M ≤ k + 1)
      go None s e = absurd (none-some _ e)
      go (Some L) s e =
          either (is_free B (after h L) r v)
          (λ t. hit_short (k + 1) 0 L (edit r v) (omega (arith, (s L refl).1)) M (rw t at e))
          (λ f. absurd (none-some _ (rw f at e)))

  walk_short : (k held : ℕ) (try : ℕ → ℕ → Reply) → ((a m : ℕ) → Short k (try a m)) → (xs : List ℕ) (n : ℕ) → Short k (walk q held try xs n)
  unfolding walk or_else
  walk_short k held try s [] n = missed_short k n
  walk_short k held try s (a ∷ more) n =
      either (stops q (n + 1))
      (λ t. rw t (missed_short k (n + 1)))
      (λ f. rw f (either (eqb a held)
      (λ t. rw t (walk_short k held try s more (n + 1)))
      (λ o. rw o (tail (try a (n + 1)).found (s a (n + 1)) (walk_short k held try s more (try a (n + 1)).asks)))))
    where
      tail : (o : Option (List Edit)) → ((L : List Edit) → o ≡ Some L → (1 ≤ length L) × (length L ≤ k)) → Short k (walk q held try more (try a (n + 1)).asks)
          → Short k (elim o as (λ _. Reply) [ None ↦ walk q held try more (try a (n + 1)).asks | Some L ↦ hit (try a (n + 1)).asks L ])
      tail None s l = l
      tail (Some L) s l = s

  module _ (plain : Plain B) where
    abbrev On : Bool
    On = q.displace

    descend_short : (k : ℕ) (try : ℕ → ℕ → List Edit → ℕ → Reply) (visiting : ℕ → Bool) (r v n : ℕ) (L : List Edit)
        → ((b a m : ℕ) → Short k (try b a L m)) → Short (k + 1) (descend B h q try visiting r v n L)
    unfolding descend make_way
    descend_short k try visiting r v n L s =
        either (visiting r) (λ t. rw t (missed_short (k + 1) n)) (λ f. rw f (go (first_required B (after h L) r v)))
      where
        go : (o : Option ℕ) → Short (k + 1) (make_way B h q try r v n L o)
        go None = missed_short (k + 1) n
        go (Some b) = walk_short (k + 1) (after h L b) (λ (a m : ℕ). closed B h r v (try b a L m)) (λ a m. closed_short k r v (try b a L m) (s b a m)) (offers B q b) n

    pub try_short : (d : ℕ) (visiting : ℕ → Bool) (r v : ℕ) (L : List Edit) (n : ℕ) → Lifted B On L → Short (B.rows + d + 1) (try_row B h q d visiting r v L n)
    unfolding try_row
    try_short zero visiting r v L n w =
        enter-cases B h q (Short (B.rows + 0 + 1)) r v L n _ (missed_short _ (n + 1))
        (λ t. hit_short _ (n + 1) (displaced B On h r v L) (edit r v) (omega (arith, lifted_few B On h _ (lifted-more B On h L w plain r v t))))
        (λ t. missed_short _ (n + 1))
    try_short (suc d) visiting r v L n w =
        enter-cases B h q (Short (B.rows + suc d + 1)) r v L n _ (missed_short _ (n + 1))
        (λ t. hit_short _ (n + 1) (displaced B On h r v L) (edit r v) (omega (arith, lifted_few B On h _ (lifted-more B On h L w plain r v t))))
        (λ t. deeper (lifted-more B On h L w plain r v t) (λ b a m. try_short d (within r visiting) b a _ m (lifted-more B On h L w plain r v t)))
      where
        deeper : Lifted B On (displaced B On h r v L) → ((b a m : ℕ) → Short (B.rows + d + 1) (try_row B h q d (within r visiting) b a (displaced B On h r v L) m))
            → Short (B.rows + suc d + 1) (descend B h q (try_row B h q d (within r visiting)) visiting r v (n + 1) (displaced B On h r v L))
        deeper z s M e =
            let (a, b) = descend_short (B.rows + d + 1) (try_row B h q d (within r visiting)) visiting r v (n + 1) (displaced B On h r v L) s M e in
            (a, omega arith)

-- ---- of a request

-- a law of replies that holds of each end of a search holds of the whole
discover-cases : (B : Board) (h : Roster) (q : Request) (P : Reply → Type 0) → P (miss 1) → P (miss 2)
    → P (try_row B h q.terms q.depth (λ (o : ℕ). false) q.row q.value [] 2) → P (discover B h q)
unfolding discover
discover-cases B h q P a b c =
    either (stops q.terms 1)
    (λ t. rw t a)
    (λ f. rw f (either (holds_already h q.row q.value)
    (λ t. rw t a)
    (λ n. rw n (either (stops q.terms 2) (λ t. rw t b) (λ g. rw g c)))))

-- 7.3: a search makes at most as many asks as the ceiling says
pub search_asks : (B : Board) (h : Roster) (q : Request) (c : ℕ) → ((b : ℕ) → length (offers B q.terms b) ≤ c) → (search B h q).asks ≤ ask_ceiling c q.depth
unfolding search ask_ceiling
search_asks B h q c few =
    discover-cases B h q (λ (a : Reply). a.asks ≤ 2 + try_ceiling c q.depth) (omega arith) (omega arith) (omega (arith, try_asks B h q.terms c few q.depth (λ (o : ℕ). false) q.row q.value [] 2))

-- 6.6: its list has at most rows + depth + 1 edits
pub discover_short : (B : Board) (h : Roster) (q : Request) → Plain B → Short (B.rows + q.depth + 1) (discover B h q)
discover_short B h q plain =
    discover-cases B h q (Short (B.rows + q.depth + 1)) (missed_short _ 1) (missed_short _ 2)
    (try_short B h q.terms plain q.depth (λ (o : ℕ). false) q.row q.value [] 2 (lifted_none B q.terms.displace))
