use Rattle.std.proofs.Common.{refl, sym, ◌∙◌, inl, inr}
use Rattle.std.proofs.lemmas.Bool.{false≢true}
use Rattle.bench_host.proofs.cuts.cut.Goals as goal

pub returns-then-not-may_be_cut-clause-does : goal.returns-then-not-may_be_cut-clause-does
returns-then-not-may_be_cut-clause-does g c =
    inl (c.in-Ok.ensures.ranged, (c.in-Ok.shape, (c.in-Ok.ensures, inr (λ may. false≢true (sym c.if-not-may_be_cut.true ∙ c.may_be_cut.ensures.1 may), (refl, refl)))))

pub returns-clause-does : goal.returns-clause-does
returns-clause-does g c =
    let k = c.run_cut.ensures in
    inl (c.in-Ok.ensures.ranged, (c.in-Ok.shape, (c.in-Ok.ensures, inl (c.may_be_cut.ensures.0 c.if-not-may_be_cut.false, record { done = refl; left = k.leaves; points = k.points; smallest = k.smallest }))))
