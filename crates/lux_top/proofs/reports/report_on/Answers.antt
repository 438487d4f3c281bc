use Rattle.lux_top.proofs.reports.report_on.Goals as goal

pub returns-clause-ledger : goal.returns-clause-ledger
returns-clause-ledger c =
    let facts = c.in_ok-facts.ensures in
    record {
      is_crew_ledger = record {
        accounts = c.requires.parts;
        is_ledger = record { finished = c.requires.done.finished; balanced = c.requires.done.balanced; paid = c.requires.paid; same_flux = c.requires.direct; encloses = facts.encloses };
      };
      true_facts = rw (facts.facts, c.get.ensures.value) at facts.true_facts;
    }
