use Rattle.std.proofs.Common.{◌≡◌, ℕ, ◌+◌, ◌*◌, ◌<◌, length, get_or, sym, ap, subst, ◌∙◌, arith}
use Rattle.std.proofs.lemmas.Nat.{mul-le}
use Rattle.flux_system.specs.System.{patches}
use Rattle.shot_core.specs.Hands.{Holdings}
use Rattle.shot_core.specs.Shots.{amounts_after, fractions_after}
use Rattle.shot_core.specs.Shapes.{with_batch, IsBatch}
use Rattle.shot_core.proofs.Carrying.{carried-amounts, batch_kept, booked_alone, booked_in_batch, batch_with_shot}
use Rattle.shot_core.proofs.batches.BatchHand.book.Goals as goal

-- what was there before the shot, by the hand and the sums that it is booked in
alone_is : (c : goal.After-book) → with_batch c.carry_to.new.hand c.carry_to.new.self.highs c.carry_to.new.self.lows ≡ c.args.self.now
alone_is c = c.carry_to.ensures.same ∙ (c.carry_to.ensures.hand ∙ c.self.view_is)

alone_count : (c : goal.After-book) → length c.carry_to.new.hand.amounts ≡ patches c.args.system.now
alone_count c = sym (carried-amounts c.carry_to.new.hand c.carry_to.new.self.highs c.carry_to.new.self.lows) ∙ (ap (λ (h : Holdings). length h.amounts) (alone_is c) ∙ c.requires.length)

pub invariant_of-self : goal.invariant_of-self
invariant_of-self c =
    let s = c.args.system.now in
    let own = c.carry_to.new.self in
    let same = c.carry_to.ensures.same in
    batch_kept s c.args.patch c.args.t c.carry_to.new.hand own.highs own.lows (alone_count c) own.shots own.most c.carry_to.ensures.shots c.carry_to.ensures.batch c.book.new.self
    (c.book.ensures.amounts ∙ (λ k. amounts_after s c.args.patch c.args.t (sym same k).amounts (sym same k).fractions)) (c.book.ensures.fractions ∙ (λ k. fractions_after s c.args.patch c.args.t (sym same k).fractions))
    (λ j h. subst (λ (before : Holdings). get_or (amounts_after s c.args.patch c.args.t before.amounts before.fractions) j 0 < 18446744073709551616) (sym (alone_is c)) (c.requires.fits j h))

alone : (c : goal.After-book) → with_batch c.book.new.self c.carry_to.new.self.highs c.carry_to.new.self.lows
    ≡ record { amounts = amounts_after c.args.system.now c.args.patch c.args.t c.args.self.now.amounts c.args.self.now.fractions; fractions = fractions_after c.args.system.now c.args.patch c.args.t c.args.self.now.fractions }
alone c =
    let s = c.args.system.now in
    let own = c.carry_to.new.self in
    let same = c.carry_to.ensures.same in
    let was = alone_is c in
    booked_alone s c.args.patch c.args.t c.carry_to.new.hand own.highs own.lows (alone_count c) own.shots own.most c.carry_to.ensures.shots c.carry_to.ensures.batch c.book.new.self
    (c.book.ensures.amounts ∙ (λ k. amounts_after s c.args.patch c.args.t (sym same k).amounts (sym same k).fractions)) (c.book.ensures.fractions ∙ (λ k. fractions_after s c.args.patch c.args.t (sym same k).fractions))
    ∙ (λ k. record { amounts = amounts_after s c.args.patch c.args.t (was k).amounts (was k).fractions; fractions = fractions_after s c.args.patch c.args.t (was k).fractions })

pub returns-then-t-gt-MOST_AT_ONCE-clause-amounts : goal.returns-then-t-gt-MOST_AT_ONCE-clause-amounts
returns-then-t-gt-MOST_AT_ONCE-clause-amounts c = ap (λ (h : Holdings). h.amounts) (alone c)

pub returns-then-t-gt-MOST_AT_ONCE-clause-fractions : goal.returns-then-t-gt-MOST_AT_ONCE-clause-fractions
returns-then-t-gt-MOST_AT_ONCE-clause-fractions c = ap (λ (h : Holdings). h.fractions) (alone c)

pub add-requires-clause-lengths : goal.add-requires-clause-lengths
add-requires-clause-lengths c =
    let is = c.make_room.ensures.same ∙ c.self.view_is in
    let count = sym (carried-amounts c.make_room.new.hand c.make_room.new.self.highs c.make_room.new.self.lows) ∙ (ap (λ (h : Holdings). length h.amounts) is ∙ c.requires.length) in
    (c.make_room.ensures.batch.of_highs ∙ count, c.make_room.ensures.batch.of_lows ∙ count)

batch_is : (c : goal.After-add) → with_batch c.make_room.new.hand c.make_room.new.self.highs c.make_room.new.self.lows ≡ c.args.self.now
batch_is c = c.make_room.ensures.same ∙ c.self.view_is

batch_count : (c : goal.After-add) → length c.make_room.new.hand.amounts ≡ patches c.args.system.now
batch_count c = sym (carried-amounts c.make_room.new.hand c.make_room.new.self.highs c.make_room.new.self.lows) ∙ (ap (λ (h : Holdings). length h.amounts) (batch_is c) ∙ c.requires.length)

pub invariant_of-self-2 : goal.invariant_of-self-2
invariant_of-self-2 c =
    let s = c.args.system.now in
    let own = c.make_room.new.self in
    let reflectance = c.from.ensures ∙ c.reflectance.ensures in
    let some = c.make_room.ensures.shots in
    let valid = c.len.ensures.system in
    let most = valid.reflectances c.args.patch c.requires.patch in
    let below = mul-le c.args.t c.from.result 10000000000000000 950 (omega arith) (omega arith) in
    let batch = batch_with_shot s c.args.patch c.args.t c.make_room.new.hand own.highs own.lows (batch_count c) own.shots own.most (c.args.t * c.from.result) c.make_room.ensures.batch c.add.new.self.highs c.add.new.self.lows
    c.add.ensures.lengths.0 c.add.ensures.lengths.1 (ap (λ (r : ℕ). c.args.t * r) reflectance) c.add.ensures.highs c.add.ensures.lows valid c.requires.patch some (omega arith)
    (λ j h. subst (λ (before : Holdings). get_or (amounts_after s c.args.patch c.args.t before.amounts before.fractions) j 0 < 18446744073709551616) (sym (batch_is c)) (c.requires.fits j h)) in
    let shots_are = c.add.ensures.shots in
    let most_is = c.add.ensures.most in
    subst (λ (shots : ℕ). IsBatch c.make_room.new.hand c.add.new.self.highs c.add.new.self.lows shots c.add.new.self.most) (sym shots_are)
    (subst (λ (most : ℕ). IsBatch c.make_room.new.hand c.add.new.self.highs c.add.new.self.lows (own.shots + 1) most) (sym most_is) batch)

batched : (c : goal.After-add) → with_batch c.make_room.new.hand c.add.new.self.highs c.add.new.self.lows
    ≡ record { amounts = amounts_after c.args.system.now c.args.patch c.args.t c.args.self.now.amounts c.args.self.now.fractions; fractions = fractions_after c.args.system.now c.args.patch c.args.t c.args.self.now.fractions }
batched c =
    let s = c.args.system.now in
    let own = c.make_room.new.self in
    let reflectance = c.from.ensures ∙ c.reflectance.ensures in
    let was = batch_is c in
    booked_in_batch s c.args.patch c.args.t c.make_room.new.hand own.highs own.lows (batch_count c) own.shots own.most (c.args.t * c.from.result) c.make_room.ensures.batch c.add.new.self.highs c.add.new.self.lows
    c.add.ensures.lengths.0 c.add.ensures.lengths.1 (ap (λ (r : ℕ). c.args.t * r) reflectance) c.add.ensures.highs c.add.ensures.lows
    ∙ (λ k. record { amounts = amounts_after s c.args.patch c.args.t (was k).amounts (was k).fractions; fractions = fractions_after s c.args.patch c.args.t (was k).fractions })

pub returns-clause-amounts : goal.returns-clause-amounts
returns-clause-amounts c = ap (λ (h : Holdings). h.amounts) (batched c)

pub returns-clause-fractions : goal.returns-clause-fractions
returns-clause-fractions c = ap (λ (h : Holdings). h.fractions) (batched c)
