use Rattle.std.proofs.Common.{refl, sym, ◌∙◌}
use Rattle.std.proofs.lemmas.List.{set-set}
use Rattle.territory.proofs.Putting.{here, put_here, need, marked_small, was_noted, clean_loose, dirty_now, dirty_still, dirty_grown, dirty_kept, dirty_if, segments_put, dirty_put, unmarked_put, marked_put}
use Rattle.territory.proofs.pool.Pool.put.Goals as goal

pub put-requires-clause-index_in : goal.put-requires-clause-index_in
put-requires-clause-index_in c = (here _ _ _ _ _ _ c.self.view_is c.requires.settled c.requires.start c.requires.index_in c.index_mut-segment.ensures.value).index_in

pub returns-then-not-needs_mark-clause-settled : goal.returns-then-not-needs_mark-clause-settled
returns-then-not-needs_mark-clause-settled c = (put_here _ _ _ _ _ _ _ _ (here _ _ _ _ _ _ c.self.view_is c.requires.settled c.requires.start c.requires.index_in c.index_mut-segment.ensures.value) c.put.ensures).settled

pub returns-then-not-needs_mark-clause-segments : goal.returns-then-not-needs_mark-clause-segments
returns-then-not-needs_mark-clause-segments c = (unmarked_put _ _ _ _ _ _ _ _ _ c.self.view_is (here _ _ _ _ _ _ c.self.view_is c.requires.settled c.requires.start c.requires.index_in c.index_mut-segment.ensures.value) c.put.ensures (need _ _ _ _ _ _ _ _ _ _ (put_here _ _ _ _ _ _ _ _ (here _ _ _ _ _ _ c.self.view_is c.requires.settled c.requires.start c.requires.index_in c.index_mut-segment.ensures.value) c.put.ensures) c.role.ensures c.generation.ensures c.needs_mark.ensures ∙ c.if-not-needs_mark.true)).0

pub returns-then-not-needs_mark-clause-dirty : goal.returns-then-not-needs_mark-clause-dirty
returns-then-not-needs_mark-clause-dirty c = (unmarked_put _ _ _ _ _ _ _ _ _ c.self.view_is (here _ _ _ _ _ _ c.self.view_is c.requires.settled c.requires.start c.requires.index_in c.index_mut-segment.ensures.value) c.put.ensures (need _ _ _ _ _ _ _ _ _ _ (put_here _ _ _ _ _ _ _ _ (here _ _ _ _ _ _ c.self.view_is c.requires.settled c.requires.start c.requires.index_in c.index_mut-segment.ensures.value) c.put.ensures) c.role.ensures c.generation.ensures c.needs_mark.ensures ∙ c.if-not-needs_mark.true)).1

pub mark-was_clean-requires-clause-start : goal.mark-was_clean-requires-clause-start
mark-was_clean-requires-clause-start c = (put_here _ _ _ _ _ _ _ _ (here _ _ _ _ _ _ c.self.view_is c.requires.settled c.requires.start c.requires.index_in c.index_mut-segment.ensures.value) c.put.ensures).starts

pub mark-was_clean-requires-clause-index_in : goal.mark-was_clean-requires-clause-index_in
mark-was_clean-requires-clause-index_in c = (put_here _ _ _ _ _ _ _ _ (here _ _ _ _ _ _ c.self.view_is c.requires.settled c.requires.start c.requires.index_in c.index_mut-segment.ensures.value) c.put.ensures).index_in

pub mark-was_clean-requires-clause-generation_in : goal.mark-was_clean-requires-clause-generation_in
mark-was_clean-requires-clause-generation_in c = marked_small _ _ _ _ _ _ _ (put_here _ _ _ _ _ _ _ _ (here _ _ _ _ _ _ c.self.view_is c.requires.settled c.requires.start c.requires.index_in c.index_mut-segment.ensures.value) c.put.ensures) (need _ _ _ _ _ _ _ _ _ _ (put_here _ _ _ _ _ _ _ _ (here _ _ _ _ _ _ c.self.view_is c.requires.settled c.requires.start c.requires.index_in c.index_mut-segment.ensures.value) c.put.ensures) c.role.ensures c.generation.ensures c.needs_mark.ensures ∙ c.if-not-needs_mark.false)

pub push_last-requires-clause-loose : goal.push_last-requires-clause-loose
push_last-requires-clause-loose c = clean_loose _ _ _ _ _ _ (put_here _ _ _ _ _ _ _ _ (here _ _ _ _ _ _ c.self.view_is c.requires.settled c.requires.start c.requires.index_in c.index_mut-segment.ensures.value) c.put.ensures) (c.mark-was_clean.ensures.before.0 c.if-was_clean.true)

pub returns-then-was_clean-clause-settled : goal.returns-then-was_clean-clause-settled
returns-then-was_clean-clause-settled c = marked_put _ _ _ _ _ _ _ _ _ _ (here _ _ _ _ _ _ c.self.view_is c.requires.settled c.requires.start c.requires.index_in c.index_mut-segment.ensures.value) c.put.ensures (marked_small _ _ _ _ _ _ _ (put_here _ _ _ _ _ _ _ _ (here _ _ _ _ _ _ c.self.view_is c.requires.settled c.requires.start c.requires.index_in c.index_mut-segment.ensures.value) c.put.ensures) (need _ _ _ _ _ _ _ _ _ _ (put_here _ _ _ _ _ _ _ _ (here _ _ _ _ _ _ c.self.view_is c.requires.settled c.requires.start c.requires.index_in c.index_mut-segment.ensures.value) c.put.ensures) c.role.ensures c.generation.ensures c.needs_mark.ensures ∙ c.if-not-needs_mark.false)) c.mark-was_clean.ensures.after _
    (dirty_now _ _ _ _ _ _ _ _ (put_here _ _ _ _ _ _ _ _ (here _ _ _ _ _ _ c.self.view_is c.requires.settled c.requires.start c.requires.index_in c.index_mut-segment.ensures.value) c.put.ensures) c.push_last.ensures.lists c.push_last.ensures.links c.push_last.ensures.each_once)

pub returns-then-was_clean-clause-segments : goal.returns-then-was_clean-clause-segments
returns-then-was_clean-clause-segments c = segments_put _ _ _ _ _ _ _ _ _ _ c.self.view_is (here _ _ _ _ _ _ c.self.view_is c.requires.settled c.requires.start c.requires.index_in c.index_mut-segment.ensures.value) c.put.ensures (sym (set-set _ _ _ _) ∙ was_noted _ _ _ _ _ _ _ _ refl (put_here _ _ _ _ _ _ _ _ (here _ _ _ _ _ _ c.self.view_is c.requires.settled c.requires.start c.requires.index_in c.index_mut-segment.ensures.value) c.put.ensures) (need _ _ _ _ _ _ _ _ _ _ (put_here _ _ _ _ _ _ _ _ (here _ _ _ _ _ _ c.self.view_is c.requires.settled c.requires.start c.requires.index_in c.index_mut-segment.ensures.value) c.put.ensures) c.role.ensures c.generation.ensures c.needs_mark.ensures ∙ c.if-not-needs_mark.false) c.mark-was_clean.ensures.after)

pub returns-then-was_clean-clause-dirty : goal.returns-then-was_clean-clause-dirty
returns-then-was_clean-clause-dirty c = dirty_put _ _ _ _ _ _ _ _ _ _ c.self.view_is (here _ _ _ _ _ _ c.self.view_is c.requires.settled c.requires.start c.requires.index_in c.index_mut-segment.ensures.value) c.put.ensures (dirty_grown _ _ _ _ _ _ _ _ refl (put_here _ _ _ _ _ _ _ _ (here _ _ _ _ _ _ c.self.view_is c.requires.settled c.requires.start c.requires.index_in c.index_mut-segment.ensures.value) c.put.ensures) (need _ _ _ _ _ _ _ _ _ _ (put_here _ _ _ _ _ _ _ _ (here _ _ _ _ _ _ c.self.view_is c.requires.settled c.requires.start c.requires.index_in c.index_mut-segment.ensures.value) c.put.ensures) c.role.ensures c.generation.ensures c.needs_mark.ensures ∙ c.if-not-needs_mark.false) (c.mark-was_clean.ensures.before.0 c.if-was_clean.true) c.push_last.ensures.lists)

pub returns-else-was_clean-clause-settled : goal.returns-else-was_clean-clause-settled
returns-else-was_clean-clause-settled c = marked_put _ _ _ _ _ _ _ _ _ _ (here _ _ _ _ _ _ c.self.view_is c.requires.settled c.requires.start c.requires.index_in c.index_mut-segment.ensures.value) c.put.ensures (marked_small _ _ _ _ _ _ _ (put_here _ _ _ _ _ _ _ _ (here _ _ _ _ _ _ c.self.view_is c.requires.settled c.requires.start c.requires.index_in c.index_mut-segment.ensures.value) c.put.ensures) (need _ _ _ _ _ _ _ _ _ _ (put_here _ _ _ _ _ _ _ _ (here _ _ _ _ _ _ c.self.view_is c.requires.settled c.requires.start c.requires.index_in c.index_mut-segment.ensures.value) c.put.ensures) c.role.ensures c.generation.ensures c.needs_mark.ensures ∙ c.if-not-needs_mark.false)) c.mark-was_clean.ensures.after _
    (dirty_still _ _ _ _ _ _ _ (put_here _ _ _ _ _ _ _ _ (here _ _ _ _ _ _ c.self.view_is c.requires.settled c.requires.start c.requires.index_in c.index_mut-segment.ensures.value) c.put.ensures) (dirty_if _ _ c.mark-was_clean.ensures.before c.if-was_clean.false))

pub returns-else-was_clean-clause-segments : goal.returns-else-was_clean-clause-segments
returns-else-was_clean-clause-segments c = segments_put _ _ _ _ _ _ _ _ _ _ c.self.view_is (here _ _ _ _ _ _ c.self.view_is c.requires.settled c.requires.start c.requires.index_in c.index_mut-segment.ensures.value) c.put.ensures (sym (set-set _ _ _ _) ∙ was_noted _ _ _ _ _ _ _ _ refl (put_here _ _ _ _ _ _ _ _ (here _ _ _ _ _ _ c.self.view_is c.requires.settled c.requires.start c.requires.index_in c.index_mut-segment.ensures.value) c.put.ensures) (need _ _ _ _ _ _ _ _ _ _ (put_here _ _ _ _ _ _ _ _ (here _ _ _ _ _ _ c.self.view_is c.requires.settled c.requires.start c.requires.index_in c.index_mut-segment.ensures.value) c.put.ensures) c.role.ensures c.generation.ensures c.needs_mark.ensures ∙ c.if-not-needs_mark.false) c.mark-was_clean.ensures.after)

pub returns-else-was_clean-clause-dirty : goal.returns-else-was_clean-clause-dirty
returns-else-was_clean-clause-dirty c = dirty_put _ _ _ _ _ _ _ _ _ _ c.self.view_is (here _ _ _ _ _ _ c.self.view_is c.requires.settled c.requires.start c.requires.index_in c.index_mut-segment.ensures.value) c.put.ensures (dirty_kept _ _ _ _ _ _ _ refl (put_here _ _ _ _ _ _ _ _ (here _ _ _ _ _ _ c.self.view_is c.requires.settled c.requires.start c.requires.index_in c.index_mut-segment.ensures.value) c.put.ensures) (need _ _ _ _ _ _ _ _ _ _ (put_here _ _ _ _ _ _ _ _ (here _ _ _ _ _ _ c.self.view_is c.requires.settled c.requires.start c.requires.index_in c.index_mut-segment.ensures.value) c.put.ensures) c.role.ensures c.generation.ensures c.needs_mark.ensures ∙ c.if-not-needs_mark.false) (dirty_if _ _ c.mark-was_clean.ensures.before c.if-was_clean.false))
