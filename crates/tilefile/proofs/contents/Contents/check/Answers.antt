use Rattle.std.proofs.Common.{◌≡◌, refl, ap, ◌∙◌}
use Rattle.limits.proofs.Outcomes.{none_found, broke}
use Rattle.tilefile.specs.Files.{FileChecked}
use Rattle.tilefile.proofs.Wholes.{SectionsAre, contents_hold}
use Rattle.tilefile.proofs.Entries.{carried}
use Rattle.tilefile.proofs.Sections.{rule_mapped, shape_mapped, cells_mapped}
use Rattle.tilefile.proofs.contents.Contents.check.Goals as goal

pub returns-in_err-ties : goal.returns-in_err-ties
returns-in_err-ties c =
    let f = c.args.bytes.now in
    let t = c.args.records in
    let why = c.in_err-ties.field-0.0 in
    let answer = c.from_residual-in_err-ties.result in
    let same = broke answer why c.from_residual-in_err-ties.ensures.1 in
    let bytes : c.rule.new.self.bytes.now ≡ f = ap (λ b. b.now) c.in_ok-letter.ensures.bytes ∙ c.new-reader.ensures.bytes in
    let again : c.shape.new.self.bytes.now ≡ f = ap (λ b. b.now) c.in_ok-shape.ensures.bytes ∙ bytes in
    rule_mapped f 0 (λ e z. none_found e z) (λ a.
    shape_mapped f 3 t (λ e z. none_found e z) (λ b. (c.in_ok-shape.shape, b.0.0, cells_mapped _ _ c.in_ok-shape.shape f 11 (λ e. carried answer why e same) (λ z. absurd z.0) (rw (again, b.1) at c.in_err-ties.ensures.checked))) (rw (bytes, a.1) at c.in_ok-shape.ensures.checked))
    (rw (c.new-reader.ensures.bytes, c.new-reader.ensures.place) at c.in_ok-letter.ensures.checked)

pub returns : goal.returns
returns c =
    let f = c.args.bytes.now in
    let t = c.args.records in
    let bytes : c.rule.new.self.bytes.now ≡ f = ap (λ b. b.now) c.in_ok-letter.ensures.bytes ∙ c.new-reader.ensures.bytes in
    let again : c.shape.new.self.bytes.now ≡ f = ap (λ b. b.now) c.in_ok-shape.ensures.bytes ∙ bytes in
    rule_mapped f 0 (λ e z. none_found e z) (λ a.
    shape_mapped f 3 t (λ e z. none_found e z) (λ b. (c.in_ok-shape.shape, b.0.0, cells_mapped _ _ c.in_ok-shape.shape f 11 (λ e z. none_found e z) (λ z. record { shape = refl; names = a.0.0; readings = b.0.1; ties = z.0 }) (rw (again, b.1) at c.in_ok-ties.ensures.checked))) (rw (bytes, a.1) at c.in_ok-shape.ensures.checked))
    (rw (c.new-reader.ensures.bytes, c.new-reader.ensures.place) at c.in_ok-letter.ensures.checked)

pub invariant_of-result : goal.invariant_of-result
invariant_of-result c =
    let f = c.args.bytes.now in
    let t = c.args.records in
    let x = c.in_ok-shape.shape in
    let readings = c.in_ok-shape.readings.now in
    let ties = c.in_ok-ties.ties.now in
    let bytes : c.rule.new.self.bytes.now ≡ f = ap (λ b. b.now) c.in_ok-letter.ensures.bytes ∙ c.new-reader.ensures.bytes in
    let again : c.shape.new.self.bytes.now ≡ f = ap (λ b. b.now) c.in_ok-shape.ensures.bytes ∙ bytes in
    let cell_record : FileChecked f t (λ e. ⊥) (SectionsAre f x readings ties) = rule_mapped f 0 (λ e z. none_found e z) (λ a.
    shape_mapped f 3 t (λ e z. none_found e z) (λ b. (x, b.0.0, cells_mapped _ _ x f 11 (λ e z. none_found e z) (λ z. (refl, b.0.1, z.0)) (rw (again, b.1) at c.in_ok-ties.ensures.checked))) (rw (bytes, a.1) at c.in_ok-shape.ensures.checked))
    (rw (c.new-reader.ensures.bytes, c.new-reader.ensures.place) at c.in_ok-letter.ensures.checked) in
    contents_hold f t x readings ties cell_record
