use Rattle.std.proofs.Common.{Ok, IsOk, IfOk, refl, sym, subst, arith}
use Rattle.limits.proofs.Outcomes.{broke}
use Rattle.filter.specs.declared.states.Draft.{Draft}
use Rattle.tilefile.specs.Contents.{contents_survey}
use Rattle.tilefile.specs.Files.{FillDoes, LedTo, ReadDoes}
use Rattle.tilefile.specs.Layout.{IsLayout}
use Rattle.tilefile.proofs.Accepting.{read_accepts}
use Rattle.tilefile.proofs.Layouts.{read_layout}
use Rattle.tilefile.proofs.Found.{fill_accepted, read_refused, read_accepted, read_led}
use Rattle.tilefile.proofs.reading.read_tile.Goals as goal

pub returns-in_err-contents-clause-does : goal.returns-in_err-contents-clause-does
returns-in_err-contents-clause-does c =
    let why = c.in_err-contents.field-0.0 in
    read_refused c.args.bytes.now c.args.tile.now why c.from_residual.result (broke c.from_residual.result why c.from_residual.ensures.1) c.in_err-contents.ensures

pub unwrap-draft-requires : goal.unwrap-draft-requires
unwrap-draft-requires c =
    let by = fill_accepted c.args.bytes.now c.args.tile.now c.in_ok-contents.contents c.fill.result c.fill.new.tile c.in_ok-contents.ensures c.fill.ensures.does in
    subst (λ z. IsOk z) (sym by.answers) refl

pub returns-clause-does : goal.returns-clause-does
returns-clause-does c =
    let x = c.in_ok-contents.contents in
    let d = c.unwrap-draft.result in
    let fill : FillDoes x.shape (contents_survey x) c.args.tile.now (Ok d) c.fill.new.tile = subst (λ z. FillDoes x.shape (contents_survey x) c.args.tile.now z c.fill.new.tile) c.unwrap-draft.ensures c.fill.ensures.does in
    subst (λ l. ReadDoes c.args.bytes.now c.args.tile.now (Ok (d, l)) c.fill.new.tile) (sym c.letter.ensures) (read_accepted c.args.bytes.now c.args.tile.now x d c.fill.new.tile c.in_ok-contents.ensures fill)

pub returns-in_err-contents-clause-only : goal.returns-in_err-contents-clause-only
returns-in_err-contents-clause-only c = read_accepts c.args.bytes.now c.args.tile.now _ _ (returns-in_err-contents-clause-does c)

pub returns-clause-found : goal.returns-clause-found
returns-clause-found c =
    let f = c.args.bytes.now in
    let x = c.in_ok-contents.contents in
    let d = c.unwrap-draft.result in
    let fill : FillDoes x.shape (contents_survey x) c.args.tile.now (Ok d) c.fill.new.tile = subst (λ z. FillDoes x.shape (contents_survey x) c.args.tile.now z c.fill.new.tile) c.unwrap-draft.ensures c.fill.ensures.does in
    subst (λ l. IsLayout f l d.shape) (sym c.letter.ensures) (read_layout f c.args.tile.now x d c.fill.new.tile (λ i. omega (arith, c.type_inv.bytes i)) c.in_ok-contents.ensures fill)

pub returns-clause-only : goal.returns-clause-only
returns-clause-only c = read_accepts c.args.bytes.now c.args.tile.now _ _ (returns-clause-does c)

pub returns-clause-ends_run : goal.returns-clause-ends_run
returns-clause-ends_run c =
    let x = c.in_ok-contents.contents in
    let d = c.unwrap-draft.result in
    let fill : FillDoes x.shape (contents_survey x) c.args.tile.now (Ok d) c.fill.new.tile = subst (λ z. FillDoes x.shape (contents_survey x) c.args.tile.now z c.fill.new.tile) c.unwrap-draft.ensures c.fill.ensures.does in
    read_led c.args.bytes.now c.args.tile.now x d c.fill.new.tile c.in_ok-contents.ensures fill (subst (λ z. IfOk z (λ (d : Draft). LedTo d (contents_survey x) c.fill.new.tile)) c.unwrap-draft.ensures c.fill.ensures.ends_run)
