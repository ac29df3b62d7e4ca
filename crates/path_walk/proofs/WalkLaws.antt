-- Trying a row whose blocker makes way, and walking the blocker's alternatives turn by turn. Assumes nothing.
use Prim.Native.Nat.{ℕ, zero, suc, ◌+◌, ◌-◌, ◌*◌, ◌≤◌, ◌<◌, ◌^◌}
use mathlib.Core.Path.{◌≡◌, refl, sym, ap, ap₂, ◌∙◌}
use mathlib.Core.Bool.{Bool, true, false}
use mathlib.Core.List.{List, ◌∷◌}
use native.Mathlib.Nat.{mul-le-mul_right, suc-mul, mul-add}
use native.Mathlib.Numerals.{add-one}
use native.Mathlib.Omega.{arith}
use lib.ListN.{length, get_or, take, drop, drop_of_length-le}
use lib.Seq.{drop-cons, take-take}
use borrow.Author.Tests.{eq-eqb, ne_eqb}
use Rattle.basics.specs.Edits.{Edit, edits}
use Rattle.basics.proofs.Bools.{either}
use Rattle.rules.specs.Board.{Board}
use Rattle.rules.specs.Roster.{Roster}
use Rattle.assignment_tables.specs.declared.Shape.{Shape}
use Rattle.assignment_tables.specs.Tables.{board}
use Rattle.assignment_tables.specs.Layout.{Marked}
use Rattle.search_rules.specs.Search.{Terms, Reply, miss, hit, stops, closed, closes, walk, offers, within, try_row, displaced}
use Rattle.search_rules.specs.Ceiling.{try_ceiling}
use Rattle.search_rules.specs.Lifted.{Lifted, Plain}
use Rattle.search_rules.proofs.Lifting.{lifted_few}
use Rattle.search_rules.proofs.Stepping.{made-lifted, try_stops, try_illegal, try_flat, try_alone, try_walks, first_required_lem, walk-stops, walk_skips, walk_finds, walk_goes_on}
use Rattle.search_rules.proofs.Bounds.{try_asks}
use Rattle.path_steps.specs.Lists.{front}
use Rattle.path_steps.proofs.PlainLaws.{board_plain}
use Rattle.path_memory.specs.Memory.{Remembers, hopeless_at}
use Rattle.path_memory.proofs.MemoryLaws.{hopeless_cases}
use Rattle.path_entry.specs.declared.Path.{Path}
use Rattle.path_entry.specs.declared.Trail.{Trail}
use Rattle.path_entry.specs.declared.Trail.TheVariants as trail
use Rattle.path_entry.specs.declared.Stuck.{Stuck}
use Rattle.path_entry.specs.Trails.{reply_in, Roomy, Told, Blocked, Closed}
use Rattle.path_entry.proofs.TrailLaws.{told_missed, missed_is, found-is, between_within}
use Rattle.path_entry.proofs.EnterLaws.{fails_cases, blocked-told}
use Rattle.path_walk.specs.Walks.{alternative, walking}

-- ---- what fails for sure

module _ (S : Shape) (m k : List ℕ) (h : Roster) (q : Terms) (marked : Marked S m) (memo : List ℕ) (depth : ℕ) (visiting : ℕ → Bool) (r v : ℕ) (L : List Edit) (n : ℕ) where
  abbrev B : Board
  B = board S m k

  pub hopeless_misses : Remembers B q.displace h memo → Lifted B q.displace L → hopeless_at B q.displace h S memo depth r v ≡ true → try_row B h q depth visiting r v L n ≡ miss (n + 1)
  hopeless_misses known w t =
      either (stops q (n + 1))
      (λ y. try_stops B h q visiting r v L n depth y)
      (λ goes. hopeless_cases S m k q.displace h memo known r v depth t
      (λ e. fails_cases B q.displace h r v e
      (λ z. try_illegal B h q visiting r v L n goes depth z)
      (λ legal blocked o. try_alone B h q visiting r v L n goes (board_plain S m k marked) w legal blocked depth o))
      (λ z b e. let (legal, blocked, first) = blocked-told B q.displace h r v b e in
      ap (λ (d : ℕ). try_row B h q d visiting r v L n) z ∙ try_flat B h q visiting r v L n goes (board_plain S m k marked) w legal blocked))

-- ---- a row that is stuck

ceiling_step : (c depth : ℕ) → 1 ≤ depth → try_ceiling c depth ≡ 1 + c * (1 + try_ceiling c (depth - 1))
unfolding try_ceiling
ceiling_step c zero l = absurd (omega arith)
ceiling_step c (suc d) l = let e : suc d - 1 ≡ d = omega arith in rw e (omega (arith, mul-add c 1 (try_ceiling c d)))

pub ceiling_positive : (c depth : ℕ) → 1 ≤ try_ceiling c depth
unfolding try_ceiling
ceiling_positive c zero = omega arith
ceiling_positive c (suc d) = omega arith

module _ (B : Board) (h : Roster) (q : Terms) (plain : Plain B) (depth : ℕ) (visiting : ℕ → Bool) (r v : ℕ) (L : List Edit) (n listed : ℕ) (rs vs rs' vs' : List ℕ) (e : Stuck)
    (w : Lifted B q.displace L) (k : Blocked B h q depth visiting r v L n listed rs vs rs' vs' e) where
  abbrev len : ℕ
  len = e.length

  made : Lifted B q.displace (displaced B q.displace h r v L)
  made = made-lifted B h q visiting r v L n k.goes plain w k.legal

  pub stuck-lifted : Lifted B q.displace (front len rs' vs')
  stuck-lifted = rw k.standing.list made

  pub stuck_few : len ≤ B.rows
  stuck_few = omega (arith, k.standing.count, lifted_few B q.displace h _ made)

  pub stuck_required : B.required e.blocker ≡ true
  stuck_required = first_required_lem B h q _ r v e.blocker k.first

  pub stuck-room : n + try_ceiling 64 depth < 2 ^ 64 → e.asks + 64 * (1 + try_ceiling 64 (depth - 1)) < 2 ^ 64
  stuck-room l = omega (arith, l, k.asked, ceiling_step 64 depth k.deeper)

  -- what the walk finds is what the try finds
  pub walked : (visiting' : ℕ → Bool) → visiting' ≡ within r visiting → (rs'' vs'' : List ℕ) (t : Trail)
      → (held : ℕ) → held ≡ h e.blocker → (xs : List ℕ) → xs ≡ offers B q e.blocker
      → Told (walking B h q (depth - 1) visiting' r v e.blocker (front len rs' vs') held xs e.asks) len (B.rows + (depth - 1) + 2) rs' vs' rs'' vs'' t
      → Told (try_row B h q depth visiting r v L n) listed (B.rows + depth + 1) rs vs rs'' vs'' t
  walked visiting' f rs'' vs'' t held z xs y o = rw same (record {
    reply = o.reply;
    between = between_within len listed (B.rows + (depth - 1) + 2) (B.rows + depth + 1) k.standing.longer (omega (arith, k.deeper)) t o.between;
    rows_kept = kept rs'' rs' rs o.rows_kept k.standing.rows_kept;
    values_kept = kept vs'' vs' vs o.values_kept k.standing.values_kept;
  })
    where
      deep : (d : ℕ) → 1 ≤ d → try_row B h q d visiting r v L n
          ≡ walking B h q (d - 1) (within r visiting) r v e.blocker (displaced B q.displace h r v L) (h e.blocker) (offers B q e.blocker) (n + 1)
      deep zero l = absurd (omega arith)
      deep (suc d) l =
          let z : suc d - 1 ≡ d = omega arith in
          rw z (try_walks B h q visiting r v L n k.goes plain w k.legal k.blocked d e.blocker k.unvisited k.first)

      same : try_row B h q depth visiting r v L n
          ≡ walking B h q (depth - 1) visiting' r v e.blocker (front len rs' vs') held xs e.asks
      same = rw (f, k.standing.list, k.asked, z, y) (deep depth k.deeper)

      kept : (xs'' xs' xs : List ℕ) → take len xs'' ≡ take len xs' → take listed xs' ≡ take listed xs → take listed xs'' ≡ take listed xs
      kept xs'' xs' xs a b =
          sym (take-take listed len xs'' k.standing.longer) ∙ ap (take listed) a ∙ take-take listed len xs' k.standing.longer ∙ b

-- ---- one alternative

module _ (B : Board) (h : Roster) (r v : ℕ) where
  -- what was found serves if the row is then free
  pub closed-told : (a : Reply) (listed bound : ℕ) (rs vs rs' vs' rs'' vs'' : List ℕ) (tried t : Trail)
      → Told a listed bound rs vs rs' vs' tried → Closed B h r v rs' vs' rs'' vs'' tried t → (bound' : ℕ) → bound + 1 ≤ bound' → Told (closed B h r v a) listed bound' rs vs rs'' vs'' t
  closed-told a listed bound rs vs rs' vs' rs'' vs'' tried t o c bound' l = record {
    reply = c.reply ∙ ap (closed B h r v) o.reply;
    between = between_within listed listed (bound + 1) bound' (omega arith) l t (c.between listed bound o.between);
    rows_kept = c.rows_kept listed bound o.between ∙ o.rows_kept;
    values_kept = c.values_kept listed bound o.between ∙ o.values_kept;
  }

  -- what was missed stays missed
  pub closed-miss : (a : Reply) (n : ℕ) → a ≡ miss n → closed B h r v a ≡ miss n
  unfolding closed closes
  closed-miss a n e = ap (closed B h r v) e

-- ---- the walk, turn by turn

pub record Walking (B : Board) (h : Roster) (q : Terms) (depth : ℕ) (visiting : ℕ → Bool) (row value blocker held : ℕ) (xs : List ℕ) (asks listed : ℕ) (rs₀ vs₀ rs vs : List ℕ) (asked i : ℕ) : Type 0 where
  pub upto : i ≤ length xs
  pub rows_long : length rs ≡ 137
  pub values_long : length vs ≡ 137
  pub rows_kept : take listed rs ≡ take listed rs₀
  pub values_kept : take listed vs ≡ take listed vs₀
  pub bound : asked ≤ asks + i * (1 + try_ceiling 64 depth)
  pub rest : walking B h q depth visiting row value blocker (front listed rs₀ vs₀) held xs asks ≡ walking B h q depth visiting row value blocker (front listed rs₀ vs₀) held (drop i xs) asked

module _ (B : Board) (h : Roster) (q : Terms) (depth : ℕ) (visiting : ℕ → Bool) (row value blocker held : ℕ) (xs : List ℕ) (asks listed : ℕ) (rs₀ vs₀ : List ℕ) where
  abbrev At : List ℕ → List ℕ → ℕ → ℕ → Type 0
  At = Walking B h q depth visiting row value blocker held xs asks listed rs₀ vs₀

  abbrev whole : Reply
  whole = walking B h q depth visiting row value blocker (front listed rs₀ vs₀) held xs asks

  pub walking-begins : Roomy listed rs₀ vs₀ → At rs₀ vs₀ asks 0
  walking-begins w = record {
    upto = omega arith;
    rows_long = w.rows_long;
    values_long = w.values_long;
    rows_kept = refl;
    values_kept = refl;
    bound = omega arith;
    rest = refl;
  }

  module _ (rs vs : List ℕ) (asked i : ℕ) (w : At rs vs asked i) where
    -- the list is the one that the walk began with
    pub same_list : front listed rs vs ≡ front listed rs₀ vs₀
    same_list = ap₂ edits w.rows_kept w.values_kept

    pub walking-ends : length xs ≤ i → (bound : ℕ) → Told whole listed bound rs₀ vs₀ rs vs (trail.Missed asked)
    unfolding walk
    walking-ends l bound = told_missed whole asked listed bound rs₀ vs₀ rs vs (w.rest ∙ ap (λ (ys : List ℕ). walking B h q depth visiting row value blocker (front listed rs₀ vs₀) held ys asked) (drop_of_length-le xs l)) w.rows_kept w.values_kept

    module _ (l : i < length xs) where
      abbrev x : ℕ
      x = get_or xs i 0

      here : whole ≡ walking B h q depth visiting row value blocker (front listed rs₀ vs₀) held (x ∷ drop (i + 1) xs) asked
      here = w.rest ∙ ap (λ (ys : List ℕ). walking B h q depth visiting row value blocker (front listed rs₀ vs₀) held ys asked) (drop-cons xs i 0 l ∙ ap (λ (j : ℕ). x ∷ drop j xs) (sym (add-one i)))

      product : (i + 1) * (1 + try_ceiling 64 depth) ≡ i * (1 + try_ceiling 64 depth) + (1 + try_ceiling 64 depth)
      product = ap (λ (j : ℕ). j * (1 + try_ceiling 64 depth)) (add-one i) ∙ suc-mul i (1 + try_ceiling 64 depth)

      pub walking-room : length xs ≤ 64 → asks + 64 * (1 + try_ceiling 64 depth) < 2 ^ 64 → asked + 1 + try_ceiling 64 depth < 2 ^ 64
      walking-room few r = omega (arith, r, w.bound, product, mul-le-mul_right (1 + try_ceiling 64 depth) (suc_le i l))
        where
          suc_le : (i : ℕ) → i < length xs → i + 1 ≤ 64
          suc_le i l = omega (arith, few)

      pub walking-stops : stops q (asked + 1) ≡ true → (bound : ℕ) → Told whole listed bound rs₀ vs₀ rs vs (trail.Missed (asked + 1))
      walking-stops y bound =
          told_missed whole (asked + 1) listed bound rs₀ vs₀ rs vs (here ∙ walk-stops B h q held (alternative B h q depth visiting row value blocker (front listed rs₀ vs₀)) x (drop (i + 1) xs) asked y) w.rows_kept w.values_kept

      module _ (goes : stops q (asked + 1) ≡ false) where
        pub walking_skips : x ≡ held → At rs vs (asked + 1) (i + 1)
        walking_skips e = record {
          upto = omega arith;
          rows_long = w.rows_long;
          values_long = w.values_long;
          rows_kept = w.rows_kept;
          values_kept = w.values_kept;
          bound = omega (arith, w.bound, product);
          rest = here ∙ walk_skips B h q held (alternative B h q depth visiting row value blocker (front listed rs₀ vs₀)) x (drop (i + 1) xs) asked goes (eq-eqb x held e);
        }

        module _ (other : x ≡ held → ⊥) where
          abbrev alternatively : Reply
          alternatively = alternative B h q depth visiting row value blocker (front listed rs₀ vs₀) x (asked + 1)

          -- an alternative that comes to nothing
          pub walking_missed : ((b : ℕ) → length (offers B q b) ≤ 64) → (n : ℕ) → alternatively ≡ miss n
              → (rs' vs' : List ℕ) → length rs' ≡ 137 → length vs' ≡ 137 → take listed rs' ≡ take listed rs → take listed vs' ≡ take listed vs → At rs' vs' n (i + 1)
          unfolding closed
          walking_missed offered n e rs' vs' a b f g = record {
            upto = omega arith;
            rows_long = a;
            values_long = b;
            rows_kept = f ∙ w.rows_kept;
            values_kept = g ∙ w.values_kept;
            bound = omega (arith, w.bound, product, ap asks_of e, try_asks B h q 64 offered depth visiting blocker x (front listed rs₀ vs₀) (asked + 1));
            rest = here
                ∙ walk_goes_on B h q held (alternative B h q depth visiting row value blocker (front listed rs₀ vs₀)) x (drop (i + 1) xs) asked goes (ne_eqb x held other) (ap (λ (y : Reply). y.found) e)
                ∙ ap (λ (y : Reply). walking B h q depth visiting row value blocker (front listed rs₀ vs₀) held (drop (i + 1) xs) y.asks) e;
          }
            where
              asks_of : Reply → ℕ
              asks_of y = y.asks

          -- an alternative that serves
          pub walking-found : (n : ℕ) (L : List Edit) → alternatively ≡ hit n L → whole ≡ hit n L
          walking-found n L e =
              here
              ∙ walk_finds B h q held (alternative B h q depth visiting row value blocker (front listed rs₀ vs₀)) x (drop (i + 1) xs) asked goes (ne_eqb x held other) L (ap (λ (y : Reply). y.found) e)
              ∙ ap (λ (y : Reply). hit y.asks L) e

          -- a try that was made, and closed
          module _ (rs' vs' : List ℕ) (t : Trail) (o : Told (alternative B h q depth visiting row value blocker (front listed rs vs) x (asked + 1)) listed (B.rows + depth + 2) rs vs rs' vs' t) where
            told : Told alternatively listed (B.rows + depth + 2) rs vs rs' vs' t
            told = rw (← same_list) o

            pub walking-closed : (path : Path) → t ≡ trail.Found path → Told whole listed (B.rows + depth + 2) rs₀ vs₀ rs' vs' (trail.Found path)
            unfolding reply_in
            walking-closed path f =
                let found : Told alternatively listed (B.rows + depth + 2) rs vs rs' vs' (trail.Found path) = rw f at told in
                record {
                  reply = sym (walking-found path.asks (front path.length rs' vs') (found-is alternatively path listed (B.rows + depth + 2) rs vs rs' vs' found));
                  between = found.between;
                  rows_kept = told.rows_kept ∙ w.rows_kept;
                  values_kept = told.values_kept ∙ w.values_kept;
                }

            pub walking_on : ((b : ℕ) → length (offers B q b) ≤ 64) → length rs' ≡ 137 → length vs' ≡ 137 → (n : ℕ) → t ≡ trail.Missed n → At rs' vs' n (i + 1)
            walking_on offered a b n f =
                walking_missed offered n (missed_is alternatively n listed (B.rows + depth + 2) rs vs rs' vs' (rw f at told)) rs' vs' a b told.rows_kept told.values_kept
