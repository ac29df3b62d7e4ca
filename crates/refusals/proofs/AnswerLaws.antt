-- A refusal or an answer, case by case. Assumes nothing.
use Rattle.std.specs.Prelude.{◌≡◌, Bool, true, false, ◌↔◌, Result, Ok, Err, IsErr, IsErrAnd, refl}
use Rattle.std.proofs.Common.{sym, ap, ◌∙◌}
use Rattle.std.specs.Result.{result_and}
use Rattle.refusals.specs.declared.Refusal.{Refusal}
use Rattle.refusals.specs.declared.Refusal.TheVariants as refusal
use Rattle.refusals.specs.Refusals.{Checked, Answered}
use Rattle.refusals.specs.Answers.{then_unless, then_room, unless_refused, refused_unless}

-- an answer and a refusal are two things
pub ok-err : {T : Type 0} (x : T) (r : Refusal) → Ok x ≡ Err r → ⊥
ok-err x r e = cc

-- what `?` answers is the refusal
pub passed_on : {T : Type 0} (r : Result T Refusal) (e : Refusal) → IsErr r × IsErrAnd r (λ x. x ≡ e) → r ≡ Err e
passed_on (Ok x) e h = absurd h.1
passed_on (Err x) e h = ap Err h.1

-- an answer whose own parts are known
pub ok_as : {T : Type 0} (r : Answered T) (x y : T) → r ≡ Ok x → x ≡ y → r ≡ Ok y
ok_as r x y e f = e ∙ ap Ok f

-- what is not refused
pub is_accepted : (a : Checked) → ((r : Refusal) → a ≡ Err r → ⊥) → a ≡ Ok tt
is_accepted (Ok tt) h = refl
is_accepted (Err r) h = absurd (h r refl)

-- one more test behind a refusal
module _ (r : Refusal) (before : Checked) (test : Bool) where
  pub stays-refused : (q : Refusal) → before ≡ Err q → then_unless r before test ≡ Err q
  unfolding then_unless
  stays-refused q z = rw z

  pub says_no : before ≡ Ok tt → test ≡ false → then_unless r before test ≡ Err r
  unfolding then_unless
  says_no z f = rw (z, f)

  pub says_yes : before ≡ Ok tt → test ≡ true → then_unless r before test ≡ Ok tt
  unfolding then_unless
  says_yes z t = rw (z, t)

module _ {A : Type 0} (refuse : Refusal → A) (x : A) (before : Checked) where
  pub refusal-said : (q : Refusal) → before ≡ Err q → unless_refused refuse x before ≡ refuse q
  unfolding unless_refused
  refusal-said q z = rw z

  pub answer-given : before ≡ Ok tt → unless_refused refuse x before ≡ x
  unfolding unless_refused
  answer-given z = rw z

module _ {A : Type 0} (refuse : Refusal → A) (x : A) (before : Checked) (room : Bool) where
  pub refused-before : (q : Refusal) → before ≡ Err q → refuse q ≡ unless_refused refuse x (then_room before room)
  refused-before q z = sym (refusal-said refuse x (then_room before room) q (stays-refused refusal.Room before room q z))

  pub refused-room : before ≡ Ok tt → room ≡ false → refuse refusal.Room ≡ unless_refused refuse x (then_room before room)
  refused-room z f = sym (refusal-said refuse x (then_room before room) refusal.Room (says_no refusal.Room before room z f))

  pub not_refused : before ≡ Ok tt → room ≡ true → x ≡ unless_refused refuse x (then_room before room)
  not_refused z t = sym (answer-given refuse x (then_room before room) (says_yes refusal.Room before room z t))

-- a test that refuses nothing said yes
pub is_yes : (r : Refusal) (test : Bool) → refused_unless r test ≡ Ok tt → test ≡ true
is_yes r true e = refl
is_yes r false e = cc

-- a check and what comes after it
pub all_checked : (a b : Checked) → result_and a b ≡ Ok tt → (a ≡ Ok tt) × (b ≡ Ok tt)
all_checked (Ok x) b h = (refl, h)
all_checked (Err r) b h = cc

-- all that came before, and this test
pub passed : (r : Refusal) (before : Checked) (test : Bool) → then_unless r before test ≡ Ok tt → (before ≡ Ok tt) × (test ≡ true)
unfolding then_unless
passed r (Ok tt) true h = (refl, refl)
passed r (Ok tt) false h = cc
passed r (Err q) b h = cc

-- a test that says yes where nothing is refused
pub yes_iff : (a : Checked) (b : Bool) → result_and a (Ok b) ≡ Ok true ↔ ((a ≡ Ok tt) × (b ≡ true))
yes_iff (Ok x) true = (λ h. (refl, refl), λ h. refl)
yes_iff (Ok x) false = (λ h. (refl, cc), λ h. let e = h.1 in cc)
yes_iff (Err r) b = (λ h. (cc, cc), λ h. let e = h.0 in cc)
