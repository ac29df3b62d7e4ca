-- The test of a named row by the rows right below and right above its sequence. Assumes nothing.
use Prim.Native.Nat.{ℕ, ◌<◌}
use mathlib.Core.Path.{◌≡◌, sym, ◌∙◌}
use mathlib.Core.Logic.{◌↔◌}
use mathlib.Core.Bool.{Bool, true, false, not, ◌&&◌}
use mathlib.Core.List.{List}
use Rattle.std.specs.Prelude.{None, Some}
use Rattle.std.proofs.lemmas.Option.{none-some, same_Some}
use Rattle.basics.proofs.Bools.{same_test, and_left, and_right, and_join}
use Rattle.basics.proofs.Below.{all_below_at, all_below_of}
use Rattle.rules.specs.Board.{Board}
use Rattle.rules.specs.Roster.{Roster, stands}
use Rattle.rules.specs.Neighbours.{below, above, beside_allowed}
use Rattle.rules.specs.Reinsertion.{beside_passes}
use Rattle.rules.proofs.Sequences.{below_iff, above_iff}
use Rattle.rules.proofs.Edges.{Beside, beside_iff, beside-allowed_iff, stands_iff}
use Rattle.rules.proofs.Around.{SmallSequences}
use Rattle.assignment_tables.specs.declared.Shape.{Shape}
use Rattle.assignment_tables.specs.Tables.{sequence_at, edge_at, board}
use Rattle.overlay_pairs.specs.Pairs.{beside_all, if_any}
use Rattle.overlay_pairs.proofs.InTurn.{and_stops, and_goes}
use Rattle.overlay_pairs.proofs.Sides.{any_iff}
use Rattle.overlay_edges.proofs.PlaceLaws.{beside-all_iff}

module _ (S : Shape) (m k : List ℕ) (g : Roster) (r v : ℕ) where
  abbrev B : Board
  B = board S m k

  -- the row and every other one are allowed pairs, on either side
  row_iff : beside_passes B g r v ≡ true
      ↔ ((o : ℕ) → o < S.rows → (Beside B o (g o) r v → edge_at S m o r ≡ true) × (Beside B r v o (g o) → edge_at S m r o ≡ true))
  unfolding beside_passes
  row_iff = (
    λ t o l. let both = all_below_at _ S.rows t o l in (
      λ b. (beside-allowed_iff B o (g o) r v).0 (and_left (beside_allowed B o (g o) r v) _ both) ((beside_iff B o (g o) r v).1 b),
      λ b. (beside-allowed_iff B r v o (g o)).0 (and_right (beside_allowed B o (g o) r v) _ both) ((beside_iff B r v o (g o)).1 b),
    ),
    λ f. all_below_of _ S.rows (λ o l. and_join
        ((beside-allowed_iff B o (g o) r v).1 (λ b. (f o l).0 ((beside_iff B o (g o) r v).0 b)))
        ((beside-allowed_iff B r v o (g o)).1 (λ b. (f o l).1 ((beside_iff B r v o (g o)).0 b)))),
  )

  pub row_free : sequence_at S m k r v ≡ None → true ≡ beside_passes B g r v
  row_free e =
      sym (row_iff.1 (λ o l. (
        λ b. absurd (none-some _ (sym e ∙ b.at_right)),
        λ b. absurd (none-some _ (sym e ∙ b.at_left)),
      )))

  module _ (small : SmallSequences B) (s : ℕ) (at : sequence_at S m k r v ≡ Some s) where
    abbrev low : Bool
    low = if_any (below B s) (λ (a : ℕ). beside_all S m k g false v a r)

    abbrev high : Bool
    high = if_any (above B s) (λ (b : ℕ). beside_all S m k g true v b r)

    lower : (o a : ℕ) → below B s ≡ Some a → stands B g v a o ≡ true → (r ≡ o → ⊥) → Beside B o (g o) r v
    lower o a e x n =
        let (q, i) = (stands_iff B g v a o).0 x in
        record { one = q; apart = λ z. n (sym z); left = a; right = s; at_left = i; at_right = at; next = (below_iff B s a).1 e }

    higher : (o b : ℕ) → above B s ≡ Some b → stands B g v b o ≡ true → (r ≡ o → ⊥) → Beside B r v o (g o)
    higher o b e x n =
        let (q, i) = (stands_iff B g v b o).0 x in
        record { one = sym q; apart = n; left = s; right = b; at_left = at; at_right = i; next = (above_iff B s b (small o _ b i)).1 e }

    from_low : low ≡ true → (o : ℕ) → o < S.rows → Beside B o (g o) r v → edge_at S m o r ≡ true
    from_low t o l b =
        let same : s ≡ b.right = same_Some _ _ (sym at ∙ b.at_right) in
        let e : below B s ≡ Some b.left = (below_iff B s b.left).0 (rw same b.next) in
        (beside-all_iff S m k g false v b.left r).0 ((any_iff (below B s) _).0 t b.left e) o l
        ((stands_iff B g v b.left o).1 (b.one, b.at_left)) (λ z. b.apart (sym z))

    from-high : high ≡ true → (o : ℕ) → o < S.rows → Beside B r v o (g o) → edge_at S m r o ≡ true
    from-high t o l b =
        let same : s ≡ b.left = same_Some _ _ (sym at ∙ b.at_left) in
        let e : above B s ≡ Some b.right = (above_iff B s b.right (small o _ b.right b.at_right)).0 (rw same b.next) in
        (beside-all_iff S m k g true v b.right r).0 ((any_iff (above B s) _).0 t b.right e) o l
        ((stands_iff B g v b.right o).1 (sym b.one, b.at_right)) b.apart

    row_test : low && high ≡ beside_passes B g r v
    row_test =
        same_test _ _
        (λ t. row_iff.1 (λ o l. (from_low (and_left low _ t) o l, from-high (and_right low _ t) o l)))
        (λ t. let f = row_iff.0 t in and_join
        ((any_iff (below B s) _).1 (λ a e. (beside-all_iff S m k g false v a r).1 (λ o l x n. (f o l).0 (lower o a e x n))))
        ((any_iff (above B s) _).1 (λ b e. (beside-all_iff S m k g true v b r).1 (λ o l x n. (f o l).1 (higher o b e x n)))))

    module _ (b : Bool) (f : b ≡ low) where
      pub row_fails : not b ≡ true → false ≡ beside_passes B g r v
      row_fails t = rw (← row_test) (and_stops b low high f t)

      pub row-judged : not b ≡ false → (d : Bool) → d ≡ high → d ≡ beside_passes B g r v
      row-judged t d j = rw (← row_test) (and_goes b d low high f t j)
