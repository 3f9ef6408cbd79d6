use Rattle.territory.proofs.Unheld.{between_put}
use Rattle.territory.proofs.Worded.{put_starts, put_view, put_sound, used_put}
use Rattle.territory.proofs.territory.Territory.put.Goals as goal

pub put-requires-clause-start : goal.put-requires-clause-start
put-requires-clause-start c = (put_starts _ _ _ _ _ _ _ _ c.self.view_is c.self.invariant.1 c.requires c.place-segment.ensures.segment c.place-segment.ensures.start).0

pub put-requires-clause-index_in : goal.put-requires-clause-index_in
put-requires-clause-index_in c = (put_starts _ _ _ _ _ _ _ _ c.self.view_is c.self.invariant.1 c.requires c.place-segment.ensures.segment c.place-segment.ensures.start).1

pub returns-clause-after : goal.returns-clause-after
returns-clause-after c = put_view _ _ _ _ _ _ _ _ _ _ _
    (record {
      view_is = c.self.view_is;
      settled = c.self.invariant.1;
      new_settled = c.put.ensures.settled;
      index_in = c.requires;
      segment = c.place-segment.ensures.segment;
      start = c.place-segment.ensures.start;
      segments = c.put.ensures.segments;
      dirty = c.put.ensures.dirty;
      areas = c.put.ensures.areas;
      lists = c.put.ensures.lists;
    })

pub returns-clause-sound : goal.returns-clause-sound
returns-clause-sound c = λ generation_at. put_sound _ _ _ _ _ _ _ _ _ _ _ generation_at
    (record {
      view_is = c.self.view_is;
      settled = c.self.invariant.1;
      new_settled = c.put.ensures.settled;
      index_in = c.requires;
      segment = c.place-segment.ensures.segment;
      start = c.place-segment.ensures.start;
      segments = c.put.ensures.segments;
      dirty = c.put.ensures.dirty;
      areas = c.put.ensures.areas;
      lists = c.put.ensures.lists;
    })

pub invariant_of-self : goal.invariant_of-self
invariant_of-self c = (
  c.self.invariant.0,
  c.put.ensures.settled,
  used_put _ _ _ _ _ _ _ _ _ _ _
      (record {
        view_is = c.self.view_is;
        settled = c.self.invariant.1;
        new_settled = c.put.ensures.settled;
        index_in = c.requires;
        segment = c.place-segment.ensures.segment;
        start = c.place-segment.ensures.start;
        segments = c.put.ensures.segments;
        dirty = c.put.ensures.dirty;
        areas = c.put.ensures.areas;
        lists = c.put.ensures.lists;
      }) c.self.invariant.2,
  between_put c.self.inside.pool c.put.new.self _ _ _ _ _ _ c.put.ensures.segments c.self.invariant.3,
)
