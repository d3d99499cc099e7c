-- The text of each kind of record.
-- [add: function] The arm of its capture record.
use Rattle.generators.proofs.Prelude.{[]}
use Rattle.generators.proofs.text.put_text.Goals as goal

pub returns-in-Hits-clause-part : goal.returns-in-Hits-clause-part
returns-in-Hits-clause-part c = λ h. rw c.in-Hits.is (c.put_in_ten_places.ensures.part [] h)

pub returns-in-Ticks-clause-part : goal.returns-in-Ticks-clause-part
returns-in-Ticks-clause-part c = λ h. rw c.in-Ticks.is (c.put_in_ten_places-in-Ticks.ensures.part [] h)

pub returns-in-Net-clause-part : goal.returns-in-Net-clause-part
returns-in-Net-clause-part c = λ h. rw c.in-Net.is (c.put_all.ensures.part [] h)

pub returns-in-Rows-clause-part : goal.returns-in-Rows-clause-part
returns-in-Rows-clause-part c = λ h.
    rw c.in-Rows.is (rw c.rows_of.ensures.rows at (c.put_all-in-Rows.ensures.part [] h))
