-- The loop that empties the optional blockers one by one: what it has written after each, and what that comes to. Assumes nothing.
use Prim.Native.Nat.{ℕ, zero, suc, ◌+◌, ◌≤◌, ◌<◌}
use mathlib.Core.Path.{◌≡◌, refl, sym, ap, ap₂, ◌∙◌}
use mathlib.Core.Bool.{Bool, true, false, not, ◌&&◌, ◌||◌}
use mathlib.Core.List.{List, [], ◌∷◌, ◌++◌, map}
use native.Mathlib.Omega.{arith}
use lib.ListN.{length, take, drop, set, length-append, length-map}
use lib.Dec.{eqb}
use lib.Seq.{sets, sets-eq, length-sets, length-take-le, take-take, take_at}
use Rattle.basics.specs.Tests.{all_of_below, count_below, among}
use Rattle.basics.specs.Edits.{Edit, edits, rows_of}
use Rattle.basics.proofs.Bools.{by, and_assoc, not_not}
use Rattle.basics.proofs.Below.{all_below-same, all_of_below_none, all_of_below-yes, all_of_below_no, all_of_below-length, all_of_below-same}
use Rattle.basics.proofs.Edits.{rows_edits, length-edits}
use Rattle.basics.proofs.Maps.{map-append, sets_append}
use Rattle.rules.specs.Board.{Board, empty}
use Rattle.rules.specs.Roster.{Roster, after}
use Rattle.search_rules.specs.Blockers.{shares, at_side, fits, blocks, displaceable, displaceable_blockers}
use Rattle.search_rules.specs.Search.{edit, displaced}
use Rattle.search_rules.specs.Lifted.{without, Lifted, Plain}
use Rattle.search_rules.proofs.Displacing.{blocks-without}
use Rattle.search_rules.proofs.Lifting.{after-lifted, lifted-more, lifted_few}
use Rattle.path_blockers.specs.Seeking.{Least, unlisted, is_sought, seen_allowed, blocks_seen}
use Rattle.path_steps.specs.Lists.{front, Standing}

-- ---- the numbers that pass, up to one of them

module _ (q : ℕ → Bool) where
  -- none between
  gap : (i x : ℕ) → i ≤ x → ((y : ℕ) → i ≤ y → y < x → q y ≡ false) → all_of_below x q ≡ all_of_below i q
  gap i zero l f = ap (λ (j : ℕ). all_of_below j q) (omega arith)
  gap i (suc x) l f = by x i
      (λ k. ap (λ (j : ℕ). all_of_below j q) (omega arith))
      (λ k. all_of_below_no q x (f x k (omega arith)) ∙ gap i x k (λ y a b. f y a (omega arith)))

  count_grows : (i n : ℕ) → i ≤ n → count_below i q ≤ count_below n q
  unfolding count_below
  count_grows i zero l = let e : i ≡ 0 = omega arith in rw e (omega arith)
  count_grows i (suc n) l = by n i
      (λ k. let e : i ≡ suc n = omega arith in rw e (omega arith))
      (λ k. omega (arith, count_grows i n k))

  -- one that passes is one more
  more_to_come : (i n : ℕ) → i < n → q i ≡ true → length (all_of_below i q) < length (all_of_below n q)
  more_to_come i n l t =
      omega (arith, ap length (all_of_below-yes q i t), length-append (all_of_below i q) (i ∷ []), all_of_below-length q (suc i), all_of_below-length q n, count_grows (suc i) n l)

-- ---- what is written in the front

module _ (s : List ℕ) (a : ℕ) (xs : List ℕ) (room : a + length xs ≤ length s) where
  start_long : length (take a s) ≡ a
  start_long = length-take-le a s (omega arith)

  written-front : take (a + length xs) (sets s a xs) ≡ take a s ++ xs
  written-front =
      ap (take (a + length xs)) (sets-eq xs s a room)
      ∙ take_at (take a s ++ xs) (drop (a + length xs) s) (a + length xs) (omega (arith, length-append (take a s) xs, start_long))

  written_kept : take a (sets s a xs) ≡ take a s
  written_kept =
      sym (take-take a (a + length xs) (sets s a xs) (omega arith)) ∙ ap (take a) written-front ∙ take_at (take a s) xs a start_long

abbrev emptying : ℕ → Edit
emptying o = edit o empty

edits-more : (cs bs xs : List ℕ) → length cs ≡ length bs → edits (cs ++ xs) (bs ++ map (λ (o : ℕ). empty) xs) ≡ edits cs bs ++ map emptying xs
unfolding edits
edits-more [] [] [] e = refl
edits-more [] [] (x ∷ xs) e = ap (λ (l : List Edit). emptying x ∷ l) (edits-more [] [] xs refl)
edits-more [] (b ∷ bs) xs e = absurd (omega arith)
edits-more (a ∷ cs) [] xs e = absurd (omega arith)
edits-more (a ∷ cs) (b ∷ bs) xs e = ap (λ (l : List Edit). record { row = a; value = b } ∷ l) (edits-more cs bs xs (omega arith))

-- ---- the loop: those below `other` are written, and `other` is the next

pub record Emptying (n : ℕ) (q : ℕ → Bool) (listed : ℕ) (rs₀ vs₀ rs vs : List ℕ) (end other : ℕ) : Type 0 where
  pub upto : other ≤ n
  pub here : other < n → q other ≡ true
  pub placed : end ≡ listed + length (all_of_below other q)
  pub rows : rs ≡ sets rs₀ listed (all_of_below other q)
  pub values : vs ≡ sets vs₀ listed (map (λ (o : ℕ). empty) (all_of_below other q))

module _ (n : ℕ) (q : ℕ → Bool) (listed : ℕ) (rs₀ vs₀ : List ℕ) where
  pub emptying-begins : (x : ℕ) → Least q 0 n x → Emptying n q listed rs₀ vs₀ rs₀ vs₀ listed x
  emptying-begins x a =
      let none = gap q 0 x (omega arith) (λ y l k. a.before y l k) ∙ all_of_below_none q in
      record {
        upto = a.upto;
        here = a.here;
        placed = omega (arith, ap length none);
        rows = sym (ap (sets rs₀ listed) none);
        values = sym (ap (λ (l : List ℕ). sets vs₀ listed (map (λ (o : ℕ). empty) l)) none);
      }

  module _ (rs vs : List ℕ) (end other : ℕ) (w : Emptying n q listed rs₀ vs₀ rs vs end other) where
    pub emptying_turns : other < n → (x : ℕ) → Least q (other + 1) n x → Emptying n q listed rs₀ vs₀ (set rs end other) (set vs end empty) (end + 1) x
    emptying_turns l x a =
        let behind : suc other ≤ x = by x n (λ z. omega (arith, a.begun z)) (λ z. omega arith) in
        let one = gap q (suc other) x behind (λ y i j. a.before y (omega arith) j) ∙ all_of_below-yes q other (w.here l) in
        record {
          upto = a.upto;
          here = a.here;
          placed = omega (arith, w.placed, ap length one, length-append (all_of_below other q) (other ∷ []));
          rows = rw (w.rows, w.placed) (sym (sets_append rs₀ listed (all_of_below other q) (other ∷ [])) ∙ ap (sets rs₀ listed) (sym one));
          values = rw (w.values, w.placed)
              (ap (λ (j : ℕ). set (sets vs₀ listed (map (λ (o : ℕ). empty) (all_of_below other q))) (listed + j) empty) (sym (length-map (all_of_below other q) (λ (o : ℕ). empty)))
              ∙ sym (sets_append vs₀ listed (map (λ (o : ℕ). empty) (all_of_below other q)) (empty ∷ []))
              ∙ ap (sets vs₀ listed) (sym (map-append (λ (o : ℕ). empty) (all_of_below other q) (other ∷ [])) ∙ ap (map (λ (o : ℕ). empty)) (sym one)));
        }

    pub rows_long : length rs ≡ length rs₀
    rows_long = ap length w.rows ∙ length-sets rs₀ listed (all_of_below other q)

    pub values_long : length vs ≡ length vs₀
    values_long = ap length w.values ∙ length-sets vs₀ listed (map (λ (o : ℕ). empty) (all_of_below other q))

    module _ (as_long : length rs₀ ≡ length vs₀) (room : listed + length (all_of_below n q) ≤ length rs₀) where
      pub place-left : other < n → end < length rs₀
      place-left l = omega (arith, w.placed, more_to_come q other n l (w.here l))

      upto_now : listed + length (all_of_below other q) ≤ length rs₀
      upto_now = omega (arith, all_of_below-length q other, all_of_below-length q n, count_grows q other n w.upto)

      pub rows_kept : take listed rs ≡ take listed rs₀
      rows_kept = ap (take listed) w.rows ∙ written_kept rs₀ listed (all_of_below other q) upto_now

      pub emptying-ends : n ≤ other → Standing listed rs₀ vs₀ rs vs end (front listed rs₀ vs₀ ++ map emptying (all_of_below n q))
      emptying-ends l =
          let e : other ≡ n = omega (arith, w.upto) in
          let xs = all_of_below other q in
          let many = length-map (all_of_below other q) (λ (o : ℕ). empty) in
          let start : length (take listed rs₀) ≡ length (take listed vs₀) = length-take-le listed rs₀ (omega (arith, upto_now)) ∙ sym (length-take-le listed vs₀ (omega (arith, upto_now))) in
          record {
            list = ap₂ edits
                (ap₂ take w.placed w.rows ∙ written-front rs₀ listed (all_of_below other q) upto_now)
                (ap₂ take (w.placed ∙ ap (λ (j : ℕ). listed + j) (sym many)) w.values ∙ written-front vs₀ listed (map (λ (o : ℕ). empty) (all_of_below other q)) (omega (arith, upto_now, many)))
                ∙ edits-more (take listed rs₀) (take listed vs₀) (all_of_below other q) start
                ∙ ap (λ (j : ℕ). front listed rs₀ vs₀ ++ map emptying (all_of_below j q)) e;
            count = w.placed ∙ omega (arith, length-append (front listed rs₀ vs₀) (map emptying (all_of_below n q)), length-map (all_of_below n q) emptying, ap (λ (j : ℕ). length (all_of_below j q)) e, length-edits (take listed rs₀) (take listed vs₀) start, length-take-le listed rs₀ (omega (arith, upto_now)));
            longer = omega (arith, w.placed);
            rows_kept = rows_kept;
            values_kept = ap (take listed) w.values ∙ written_kept vs₀ listed (map (λ (o : ℕ). empty) (all_of_below other q)) (omega (arith, upto_now, many));
          }

-- ---- the numbers are the blockers that may be displaced

module _ (B : Board) (plain : Plain B) (h : Roster) (listed : ℕ) (rs vs : List ℕ) (as_many : length (take listed rs) ≡ length (take listed vs))
    (w : Lifted B true (front listed rs vs)) (r v : ℕ) (legal : B.legal r v ≡ true) where
  abbrev names : List ℕ
  names = take listed rs

  names_are : rows_of (front listed rs vs) ≡ names
  names_are = rows_edits names (take listed vs) as_many

  abbrev found : ℕ → Bool
  found = blocks_seen B h (unlisted names) (is_sought B.required names true) r v

  found-is : (o : ℕ) → found o ≡ displaceable B o && blocks B (after h (front listed rs vs)) r v o
  unfolding blocks_seen is_sought seen_allowed
  found-is o =
      sym (and_assoc (displaceable B o) (not (among o names)) _)
      ∙ ap (λ (b : Bool). displaceable B o && b)
      (ap (λ (z : Bool). not (among o names) && (not (eqb o r) && (shares (B.capacity r v) (B.capacity o (h o)) || ((B.rule && not z) && at_side B r v o (h o)))))
      (all_below-same _ _ B.rows (λ i l. ap (λ (b : Bool). b || fits B r v i (h i)) (not_not (among i names))))
      ∙ sym (ap (λ (g : Roster). blocks B g r v o) (after-lifted B true h (front listed rs vs) w ∙ ap (λ (l : List ℕ). without (λ (i : ℕ). among i l) h) names_are)
      ∙ blocks-without B r v (plain.no_value r v legal) plain.no_key h (λ (i : ℕ). among i names) o))

  all_found : all_of_below B.rows found ≡ displaceable_blockers B (after h (front listed rs vs)) r v
  unfolding displaceable_blockers
  all_found = all_of_below-same _ _ B.rows (λ o l. found-is o)

  pub displaced-is : front listed rs vs ++ map emptying (all_of_below B.rows found) ≡ displaced B true h r v (front listed rs vs)
  unfolding displaced
  displaced-is = ap (λ (l : List ℕ). front listed rs vs ++ map emptying l) all_found

  -- there are never more edits than rows
  pub displaced_few : listed ≤ length rs → listed + length (all_of_below B.rows found) ≤ B.rows
  displaced_few l =
      omega (
        arith,
        ap length displaced-is,
        lifted_few B true h _ (lifted-more B true h (front listed rs vs) w plain r v legal),
        length-append (front listed rs vs) (map emptying (all_of_below B.rows found)),
        length-map (all_of_below B.rows found) emptying,
        length-edits names (take listed vs) as_many,
        length-take-le listed rs l,
      )
