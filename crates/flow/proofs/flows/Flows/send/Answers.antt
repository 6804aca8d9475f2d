use Rattle.std.proofs.Common.{◌≡◌, ℕ, ℤ, pos, ◌≤ℤ◌, ◌<ℤ◌, refl, ap, ◌∙◌, arith, w32, SFits, to_z, of_z, rules}
use Rattle.flow.specs.declared.direction.Direction.{Direction}
use Rattle.std.specs.Int.{int_min}
use Rattle.std.proofs.lemmas.Int.{ints, to_z-of_z, int_min_is}
use Rattle.std.proofs.lemmas.Bool.{true≢false, false≢true}
use Rattle.tile.specs.Tiles.{Tile}
use Rattle.flow.specs.Sides.{remains, room, beside, pushed, what_fits}
use Rattle.flow.proofs.Pushes.{eased_pushed, eased_self}
use Rattle.flow.proofs.flows.Flows.send.Goals as goal

-- the least of three numbers
least_under : (a b c f : ℤ) → f ≡ int_min (int_min a b) c → (f ≤ℤ a) × (f ≤ℤ c)
least_under a b c f e =
    let l = int_min_is a b in
    let m = int_min_is (int_min a b) c in
    (omega (arith, ints), omega (arith, ints))

least_some : (a b c f : ℤ) → f ≡ int_min (int_min a b) c → pos 0 <ℤ a → pos 0 <ℤ b → pos 0 <ℤ c → pos 0 <ℤ f
least_some a b c f e p q r =
    let l = int_min_is a b in
    let m = int_min_is (int_min a b) c in
    omega (arith, ints)

-- what fits is within the remainder and the room, and above 0 where these are
module _ (t : Tile) (c : ℕ) (h : Direction) (u : ℕ) (most f : ℤ) (pf : SFits w32 most) (fe : f ≡ what_fits t c h u (to_z w32 (of_z w32 most))) where
  under : (f ≤ℤ remains t c (beside c h u)) × (f ≤ℤ room t c h u)
  under = least_under (remains t c (beside c h u)) (to_z w32 (of_z w32 most)) (room t c h u) f fe

  some : pos 0 <ℤ most → pos 0 <ℤ room t c h u → pos 0 <ℤ remains t c (beside c h u) → pos 0 <ℤ f
  some p o s = least_some (remains t c (beside c h u)) (to_z w32 (of_z w32 most)) (room t c h u) f fe s (omega (arith, ints)) o

pub push-requires-clause-fits : goal.push-requires-clause-fits
push-requires-clause-fits c =
    let k : SFits w32 c.what_fits-f.result = search rules in
    let b = (under c.args.self.now.tile.now c.args.self.now.columns c.args.toward c.args.u _ _ c.ranges.most c.what_fits-f.ensures.value).1 in
    omega (arith, ints)

pub push-requires-clause-few : goal.push-requires-clause-few
push-requires-clause-few c =
    let k : SFits w32 c.what_fits-f.result = search rules in
    let b = c.what_fits-f.ensures.few in
    omega (arith, ints)

pub returns-then-f-le0-clause-sent : goal.returns-then-f-le0-clause-sent
returns-then-f-le0-clause-sent c =
    let k : SFits w32 c.what_fits-f.result = search rules in
    record {
      moved = λ e. absurd (false≢true e);
      none = λ _. refl;
      sure = λ o s. let p = some c.args.self.now.tile.now c.args.self.now.columns c.args.toward c.args.u _ _ c.ranges.most c.what_fits-f.ensures.value c.requires.some o s in absurd (omega (arith, ints));
      eased = eased_self _ _ c.args.self.now.sound;
    }

pub returns-clause-sent : goal.returns-clause-sent
returns-clause-sent c =
    let k : SFits w32 c.what_fits-f.result = search rules in
    let e : c.push.new.self.tile.now ≡ pushed c.args.self.now.tile.now c.args.self.now.columns c.args.toward c.args.u c.what_fits-f.result = c.push.ensures.pushed ∙ ap (pushed c.args.self.now.tile.now c.args.self.now.columns c.args.toward c.args.u) (to_z-of_z w32 _ k) in
    let o : pos 0 <ℤ c.what_fits-f.result = omega (arith, ints) in
    let b = under c.args.self.now.tile.now c.args.self.now.columns c.args.toward c.args.u _ _ c.ranges.most c.what_fits-f.ensures.value in
    record {
      moved = λ _. (c.what_fits-f.result, o, b.1, b.0, e);
      none = λ q. absurd (true≢false q);
      sure = λ _ _. refl;
      eased = rw e (eased_pushed _ _ _ _ _ c.args.self.now.sound c.requires.place o b.1 b.0);
    }
