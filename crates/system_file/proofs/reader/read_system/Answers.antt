use Rattle.std.proofs.Common.{◌≡◌, ◌≢◌, ◌∙◌, Ok, Err, map, sym, ap, slice_index}
use Rattle.duties.specs.Duties.{first}
use Rattle.flux_system.specs.System.{FluxSystem}
use Rattle.flux_system.specs.Validity.{system_duties}
use Rattle.lux_lines.specs.Lines.{line_text}
use Rattle.lux_lines.specs.Walks.{LinesRead}
use Rattle.system_file.specs.declared.faults.SysFault.{SysFault}
use Rattle.system_file.specs.declared.faults.SysFault.TheVariants.{Memory}
use Rattle.system_file.specs.Rows.{numbers}
use Rattle.system_file.specs.SystemText.{patch_count, shares_in, system_in, direct_in, of_system, system_of}
use Rattle.system_file.specs.Shapes.{narrow_number, narrow_system}
use Rattle.system_file.proofs.Saturation.{narrow_duties, narrow_system_same}
use Rattle.system_file.proofs.Whole.{head_fails, lists_fail, system_fails, all_met}
use Rattle.laws.proofs.Results.{err_is}
use Rattle.system_file.proofs.reader.read_system.Goals as goal

pub returns-in_err-count-clause-fault : goal.returns-in_err-count-clause-fault
returns-in_err-count-clause-fault c =
    let text : c.new-source.result.text ≡ c.args.text.now = ap (λ (r : LinesRead). r.text) c.new-source.ensures in
    err_is c.from_residual.result _ (λ (f : SysFault). f ≢ Memory → system_of c.args.text.now ≡ Err f) c.from_residual.ensures.1
    (λ ne. head_fails c.args.text.now c.in_err-count.field-0.0 ((rw text at c.in_err-count.ensures.answer) ne))

pub returns-in_err-lists-clause-fault : goal.returns-in_err-lists-clause-fault
returns-in_err-lists-clause-fault c =
    let text : c.new-source.result.text ≡ c.args.text.now = ap (λ (r : LinesRead). r.text) c.new-source.ensures in
    let head = c.in_ok-count.ensures in
    let n : c.in_ok-count.count ≡ patch_count c.args.text.now = rw text at head.count in
    err_is c.from_residual-in_err-lists.result _ (λ (f : SysFault). f ≢ Memory → system_of c.args.text.now ≡ Err f) c.from_residual-in_err-lists.ensures.1
    (λ ne. lists_fail c.args.text.now c.in_err-lists.field-0.0 (rw text at head.answer) ((rw (head.same ∙ text, n) at c.in_err-lists.ensures.answer) ne))

pub returns-in_err-system-clause-fault : goal.returns-in_err-system-clause-fault
returns-in_err-system-clause-fault c =
    let text : c.new-source.result.text ≡ c.args.text.now = ap (λ (r : LinesRead). r.text) c.new-source.ensures in
    let head = c.in_ok-count.ensures in
    let lists = c.in_ok-lists.ensures in
    let n : c.in_ok-count.count ≡ patch_count c.args.text.now = rw text at head.count in
    let threshold : c.in_ok-count.threshold ≡ slice_index (numbers (line_text c.args.text.now 2)) 0 = rw text at head.threshold in
    let reflectance : c.in_ok-lists.lists.reflectance.items ≡ map narrow_number (numbers (line_text c.args.text.now 4)) = rw (head.same ∙ text) at lists.reflectance in
    let shares : c.in_ok-lists.lists.shares.items ≡ map narrow_number (shares_in c.args.text.now (patch_count c.args.text.now)) = rw (head.same ∙ text, n) at lists.shares in
    let narrow_is : record { threshold = c.in_ok-count.threshold; reflectance = c.in_ok-lists.lists.reflectance.items; shares = c.in_ok-lists.lists.shares.items } ≡ narrow_system (system_in c.args.text.now) = (λ k. record { threshold = threshold k; reflectance = reflectance k; shares = shares k }) in
    let same = ap (λ (s : FluxSystem). first (system_duties s)) narrow_is ∙ narrow_duties (system_in c.args.text.now) in
    err_is c.from_residual-in_err-system.result (of_system c.in_err-system.field-0.0) (λ (f : SysFault). f ≢ Memory → system_of c.args.text.now ≡ Err f) c.from_residual-in_err-system.ensures.1
    (λ ne. system_fails c.args.text.now c.in_err-system.field-0.0 (rw text at head.answer) (rw (head.same ∙ text, n) at lists.answer)
    (sym same ∙ c.in_err-system.ensures.answer (λ memory. ne (ap of_system memory))))

pub returns-clause-ok : goal.returns-clause-ok
returns-clause-ok c =
    let text : c.new-source.result.text ≡ c.args.text.now = ap (λ (r : LinesRead). r.text) c.new-source.ensures in
    let head = c.in_ok-count.ensures in
    let lists = c.in_ok-lists.ensures in
    let n : c.in_ok-count.count ≡ patch_count c.args.text.now = rw text at head.count in
    let threshold : c.in_ok-count.threshold ≡ slice_index (numbers (line_text c.args.text.now 2)) 0 = rw text at head.threshold in
    let reflectance : c.in_ok-lists.lists.reflectance.items ≡ map narrow_number (numbers (line_text c.args.text.now 4)) = rw (head.same ∙ text) at lists.reflectance in
    let shares : c.in_ok-lists.lists.shares.items ≡ map narrow_number (shares_in c.args.text.now (patch_count c.args.text.now)) = rw (head.same ∙ text, n) at lists.shares in
    let narrow_is : record { threshold = c.in_ok-count.threshold; reflectance = c.in_ok-lists.lists.reflectance.items; shares = c.in_ok-lists.lists.shares.items } ≡ narrow_system (system_in c.args.text.now) = (λ k. record { threshold = threshold k; reflectance = reflectance k; shares = shares k }) in
    let same = ap (λ (s : FluxSystem). first (system_duties s)) narrow_is ∙ narrow_duties (system_in c.args.text.now) in
    let met = sym same ∙ c.in_ok-system.ensures.answer in
    let system = c.in_ok-system.ensures.system ∙ (narrow_is ∙ narrow_system_same (system_in c.args.text.now) met) in
    let direct : c.in_ok-lists.lists.direct.items ≡ direct_in c.args.text.now = rw (head.same ∙ text) at lists.direct in
    all_met c.args.text.now (rw text at head.answer) (rw (head.same ∙ text, n) at lists.answer) met ∙ (λ k. Ok (sym system k, sym direct k))
