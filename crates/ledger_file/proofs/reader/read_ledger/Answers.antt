use Rattle.std.proofs.Common.{◌≡◌, ◌≢◌, ◌∙◌, ℕ, List, None, Ok, Err, sym, ap, length, refl}
use Rattle.lux_lines.specs.Walks.{LinesRead}
use Rattle.laws.proofs.Results.{err_is}
use Rattle.ledger_file.specs.declared.faults.LedgerFault.{LedgerFault}
use Rattle.ledger_file.specs.declared.faults.LedgerFault.TheVariants.{Memory}
use Rattle.ledger_file.specs.LedgerFiles.{patch_count, patch_numbers, part_count, win_count, ledger_in, ledger_of}
use Rattle.ledger_file.proofs.Back.{reads_back, refuses_memory}
use Rattle.ledger_file.proofs.Whole.{head_fails, patches_fail, ending_fails, all_met, numbers_len, intervals_len}
use Rattle.ledger_file.proofs.reader.read_ledger.Goals as goal

pub returns-in_err-head-clause-fault : goal.returns-in_err-head-clause-fault
returns-in_err-head-clause-fault c =
    let text : c.new-source.result.text ≡ c.args.text.now = ap (λ (r : LinesRead). r.text) c.new-source.ensures in
    err_is c.from_residual.result _ (λ (f : LedgerFault). f ≢ Memory → ledger_of c.args.text.now ≡ Err f) c.from_residual.ensures.1
    (λ ne. head_fails c.args.text.now c.in_err-head.field-0.0 ((rw text at c.in_err-head.ensures.answer) ne))

pub returns-in_err-lists-clause-fault : goal.returns-in_err-lists-clause-fault
returns-in_err-lists-clause-fault c =
    let text : c.new-source.result.text ≡ c.args.text.now = ap (λ (r : LinesRead). r.text) c.new-source.ensures in
    let head = c.in_ok-head.ensures in
    let n : c.in_ok-head.head.patches ≡ patch_count c.args.text.now = rw text at head.patches in
    err_is c.from_residual-in_err-lists.result _ (λ (f : LedgerFault). f ≢ Memory → ledger_of c.args.text.now ≡ Err f) c.from_residual-in_err-lists.ensures.1
    (λ ne. patches_fail c.args.text.now c.in_err-lists.field-0.0 (rw text at head.answer) ((rw (head.same ∙ text, n) at c.in_err-lists.ensures.answer) ne))

pub returns-in_err-intervals-clause-fault : goal.returns-in_err-intervals-clause-fault
returns-in_err-intervals-clause-fault c =
    let text : c.new-source.result.text ≡ c.args.text.now = ap (λ (r : LinesRead). r.text) c.new-source.ensures in
    let head = c.in_ok-head.ensures in
    let lists = c.in_ok-lists.ensures in
    let n : c.in_ok-head.head.patches ≡ patch_count c.args.text.now = rw text at head.patches in
    err_is c.from_residual-in_err-intervals.result _ (λ (f : LedgerFault). f ≢ Memory → ledger_of c.args.text.now ≡ Err f) c.from_residual-in_err-intervals.ensures.1
    (λ ne. ending_fails c.args.text.now c.in_err-intervals.field-0.0 (rw text at head.answer) (rw (head.same ∙ text, n) at lists.answer)
    ((rw (lists.same ∙ (head.same ∙ text), n) at c.in_err-intervals.ensures.answer) ne))

pub returns-clause-ok : goal.returns-clause-ok
unfolding ledger_in
returns-clause-ok c =
    let text : c.new-source.result.text ≡ c.args.text.now = ap (λ (r : LinesRead). r.text) c.new-source.ensures in
    let head = c.in_ok-head.ensures in
    let lists = c.in_ok-lists.ensures in
    let n : c.in_ok-head.head.patches ≡ patch_count c.args.text.now = rw text at head.patches in
    let direct : c.from_vec.result ≡ patch_numbers c.args.text.now (patch_count c.args.text.now) 1 = c.from_vec.ensures ∙ (rw (head.same ∙ text, n) at lists.direct) in
    let taken : c.from_vec-2.result ≡ patch_numbers c.args.text.now (patch_count c.args.text.now) 2 = c.from_vec-2.ensures ∙ (rw (head.same ∙ text, n) at lists.taken) in
    let residual : c.from_vec-3.result ≡ patch_numbers c.args.text.now (patch_count c.args.text.now) 3 = c.from_vec-3.ensures ∙ (rw (head.same ∙ text, n) at lists.residual) in
    let err : c.from_vec-4.result ≡ patch_numbers c.args.text.now (patch_count c.args.text.now) 4 = c.from_vec-4.ensures ∙ (rw (head.same ∙ text, n) at lists.err) in
    let parts : c.in_ok-head.head.parts ≡ part_count c.args.text.now = rw text at head.parts in
    let wins : c.in_ok-head.head.wins ≡ win_count c.args.text.now = rw text at head.wins in
    let intervals = rw (lists.same ∙ (head.same ∙ text), n) at c.in_ok-intervals.ensures.intervals in
    all_met c.args.text.now (rw text at head.answer) (rw (head.same ∙ text, n) at lists.answer) (rw (lists.same ∙ (head.same ∙ text), n) at c.in_ok-intervals.ensures.answer)
    ∙ (λ k. Ok (record { ledger = record { direct = sym direct k; taken = sym taken k; residual = sym residual k; err = sym err k; parts = sym parts k; wins = sym wins k }; intervals = sym intervals k }))

pub returns-clause-lengths : goal.returns-clause-lengths
returns-clause-lengths c =
    let head = c.in_ok-head.ensures in
    let lists = c.in_ok-lists.ensures in
    let n = c.in_ok-head.head.patches in
    let direct : length c.from_vec.result ≡ n = ap (λ (l : List ℕ). length l) (c.from_vec.ensures ∙ lists.direct) ∙ numbers_len _ n 1 in
    record {
      of_direct = refl;
      of_taken = ap (λ (l : List ℕ). length l) (c.from_vec-2.ensures ∙ lists.taken) ∙ (numbers_len _ n 2 ∙ sym direct);
      of_residual = ap (λ (l : List ℕ). length l) (c.from_vec-3.ensures ∙ lists.residual) ∙ (numbers_len _ n 3 ∙ sym direct);
      of_err = ap (λ (l : List ℕ). length l) (c.from_vec-4.ensures ∙ lists.err) ∙ (numbers_len _ n 4 ∙ sym direct);
    }

pub returns-clause-intervals : goal.returns-clause-intervals
returns-clause-intervals c =
    let n = c.in_ok-head.head.patches in
    let direct : length c.from_vec.result ≡ n = ap (λ (l : List ℕ). length l) (c.from_vec.ensures ∙ c.in_ok-lists.ensures.direct) ∙ numbers_len _ n 1 in
    rw (direct, c.in_ok-intervals.ensures.intervals) (intervals_len _ n)

pub returns-clause-inverse : goal.returns-clause-inverse
returns-clause-inverse c = λ l w is.
    let read = returns-clause-ok c in
    let back : ledger_of c.args.text.now ≡ Ok (record { ledger = l; intervals = None }) = rw is (reads_back l w) in
    cc

pub returns-in_err-head-clause-accepted : goal.returns-in_err-head-clause-accepted
returns-in_err-head-clause-accepted c = λ l w is. refuses_memory c.args.text.now (record { ledger = l; intervals = None }) c.from_residual.result (rw is (reads_back l w)) (returns-in_err-head-clause-fault c)

pub returns-in_err-lists-clause-accepted : goal.returns-in_err-lists-clause-accepted
returns-in_err-lists-clause-accepted c = λ l w is. refuses_memory c.args.text.now (record { ledger = l; intervals = None }) c.from_residual-in_err-lists.result (rw is (reads_back l w)) (returns-in_err-lists-clause-fault c)

pub returns-in_err-intervals-clause-accepted : goal.returns-in_err-intervals-clause-accepted
returns-in_err-intervals-clause-accepted c = λ l w is. refuses_memory c.args.text.now (record { ledger = l; intervals = None }) c.from_residual-in_err-intervals.result (rw is (reads_back l w)) (returns-in_err-intervals-clause-fault c)
