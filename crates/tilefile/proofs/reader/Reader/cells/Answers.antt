use Rattle.std.proofs.Common.{◌≡◌, ap, ◌∙◌}
use Rattle.limits.proofs.Outcomes.{mapped, none_found, unrefused, broke}
use Rattle.tilefile.specs.Sections.{reading_place}
use Rattle.tilefile.proofs.Entries.{carried, no_rest}
use Rattle.tilefile.proofs.Sections.{readings_mapped, ties_mapped}
use Rattle.tilefile.proofs.reader.Reader.cells.Goals as goal

pub returns-in_err-ties-clause-checked : goal.returns-in_err-ties-clause-checked
returns-in_err-ties-clause-checked c =
    let why = c.in_err-ties.field-0.0 in
    let same = broke c.from_residual.result why c.from_residual.ensures.1 in
    readings_mapped _ _ c.args.shape c.args.self.now.bytes.now c.args.self.now.place (λ e. carried c.from_residual.result why e same) (λ z. absurd z.0) c.in_err-ties.ensures.checked

pub returns-in_err-ties-2-clause-checked : goal.returns-in_err-ties-2-clause-checked
returns-in_err-ties-2-clause-checked c =
    let f = c.args.self.now.bytes.now in
    let why = c.in_err-ties-2.field-0.0 in
    let answer = c.from_residual-in_err-ties-2.result in
    let same = broke answer why c.from_residual-in_err-ties-2.ensures.1 in
    let bytes : c.readings.new.self.bytes.now ≡ f = ap (λ b. b.now) c.in_ok-ties.ensures.bytes in
    readings_mapped _ _ c.args.shape f c.args.self.now.place (λ e z. none_found e z) (λ a.
    ties_mapped _ _ c.args.shape f (reading_place c.args.self.now.place _) (λ e. carried answer why e same) (λ z. absurd z.0) (rw (bytes, a.1) at c.in_err-ties-2.ensures.checked)) c.in_ok-ties.ensures.checked

pub returns-in_err-end-clause-checked : goal.returns-in_err-end-clause-checked
returns-in_err-end-clause-checked c =
    let f = c.args.self.now.bytes.now in
    let why = c.in_err-end.field-0.0 in
    let answer = c.from_residual-in_err-end.result in
    let same = broke answer why c.from_residual-in_err-end.ensures.1 in
    let bytes : c.readings.new.self.bytes.now ≡ f = ap (λ b. b.now) c.in_ok-ties.ensures.bytes in
    let again : c.ties.new.self.bytes.now ≡ f = ap (λ b. b.now) c.in_ok-ties-2.ensures.bytes ∙ bytes in
    readings_mapped _ _ c.args.shape f c.args.self.now.place (λ e z. none_found e z) (λ a.
    ties_mapped _ _ c.args.shape f (reading_place c.args.self.now.place _) (λ e z. none_found e z) (λ b. mapped (λ e. carried answer why e same) (λ z. no_rest why z) (rw (again, b.1) at c.in_err-end.ensures)) (rw (bytes, a.1) at c.in_ok-ties-2.ensures.checked)) c.in_ok-ties.ensures.checked

pub returns-clause-checked : goal.returns-clause-checked
returns-clause-checked c =
    let f = c.args.self.now.bytes.now in
    let bytes : c.readings.new.self.bytes.now ≡ f = ap (λ b. b.now) c.in_ok-ties.ensures.bytes in
    let again : c.ties.new.self.bytes.now ≡ f = ap (λ b. b.now) c.in_ok-ties-2.ensures.bytes ∙ bytes in
    readings_mapped _ _ c.args.shape f c.args.self.now.place (λ e z. none_found e z) (λ a.
    ties_mapped _ _ c.args.shape f (reading_place c.args.self.now.place _) (λ e z. none_found e z) (λ b. unrefused (λ _. (a.0, b.1)) (rw (again, b.1) at c.in_ok-end.ensures)) (rw (bytes, a.1) at c.in_ok-ties-2.ensures.checked)) c.in_ok-ties.ensures.checked
