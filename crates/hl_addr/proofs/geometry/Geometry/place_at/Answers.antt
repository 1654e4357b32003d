use Rattle.hl_addr.proofs.geometry.Geometry.place_at.Goals as goal

pub returns-in-None-clause-at : goal.returns-in-None-clause-at
returns-in-None-clause-at c = rw (← c.self.view_is) (record { is_some = c.if-addr-eq-NOTHING.false; behind_lines = c.if-segment-self-2.false; in_no_slot = rw (← c.self.view_is) at c.in-None.ensures.none })
