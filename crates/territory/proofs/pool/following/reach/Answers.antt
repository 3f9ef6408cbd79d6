use Rattle.std.proofs.Common.{◌≡◌, ◌+◌, ◌*◌, get_or, ◌∙◌, ◌/◌, ◌++◌, ◌∷◌, [], Some, set, ap, subst, refl, sym}
use Rattle.std.proofs.lemmas.List.{length-set}
use Rattle.gc_words.specs.declared.value.Value.TheVariants as value
use Rattle.segment.specs.Segments.{put_in}
use Rattle.segment.specs.Copies.{with_copy}
use Rattle.territory.specs.FollowedSegments.{IsBetween, copy_at, object_at}
use Rattle.territory.proofs.Reeling.{size_pair, copied_two, put_at, reached_between}
use Rattle.territory.proofs.pool.following.reach.Goals as goal

pub grow_two-offset-requires-clause-size_is : goal.grow_two-offset-requires-clause-size_is
grow_two-offset-requires-clause-size_is c = size_pair c.args.to.now _ c.requires.between.to_space

pub put_in_pair-requires-clause-index_in : goal.put_in_pair-requires-clause-index_in
put_in_pair-requires-clause-index_in c =
    put_at c.args.between c.args.from.now c.args.to.now c.grow_two-offset.new.self c.args.places.now c.args.k c.args.tip.offset c.args.index c.requires.between c.requires.start c.requires.room c.requires.tip.copy c.requires.index
    (copied_two _ _ _ _ _ _ _ c.requires.between.from_sound c.requires.between.from_space c.requires.start (ap (λ v. get_or v (2 * c.args.k) 0) c.requires.words) (ap (λ v. get_or v (2 * c.args.k + 1) 0) c.requires.words) (ap (λ v. get_or v c.args.k 0) c.requires.births) c.grow_two-offset.ensures.after)

pub returns-clause-reached : goal.returns-clause-reached
returns-clause-reached c =
    let grown : c.grow_two-offset.new.self ≡ with_copy c.args.to.now c.args.from.now c.args.k =
    copied_two _ _ _ _ _ _ _ c.requires.between.from_sound c.requires.between.from_space c.requires.start (ap (λ v. get_or v (2 * c.args.k) 0) c.requires.words) (ap (λ v. get_or v (2 * c.args.k + 1) 0) c.requires.words) (ap (λ v. get_or v c.args.k 0) c.requires.births) c.grow_two-offset.ensures.after in
    let place : c.copy-place.result ≡ copy_at c.args.between c.grow_two-offset.result = c.copy-place.ensures in
    record {
      refers = c.requires.refers;
      starts = c.requires.start;
      unplaced = c.requires.unplaced;
      room = c.requires.room;
      offset = c.grow_two-offset.ensures.offset;
      word = c.encode-word.result;
      word_is = c.encode-word.ensures.round_trip ∙ ap (λ v. Some (value.Object v)) place;
      to = c.put_in_pair.ensures ∙ ap (λ v. put_in v (c.args.tip.offset / 2) c.args.index c.encode-word.result) grown;
      places = refl;
      own = c.and-log.ensures ∙ (ap (λ v. c.args.log.now.own.items ++ (v, c.copy-place.result) ∷ []) c.object.ensures ∙ ap (λ v. c.args.log.now.own.items ++ (object_at c.args.between c.args.k, v) ∷ []) place);
    }

pub returns-clause-between : goal.returns-clause-between
returns-clause-between c =
    let grown : c.grow_two-offset.new.self ≡ with_copy c.args.to.now c.args.from.now c.args.k =
    copied_two _ _ _ _ _ _ _ c.requires.between.from_sound c.requires.between.from_space c.requires.start (ap (λ v. get_or v (2 * c.args.k) 0) c.requires.words) (ap (λ v. get_or v (2 * c.args.k + 1) 0) c.requires.words) (ap (λ v. get_or v c.args.k 0) c.requires.births) c.grow_two-offset.ensures.after in
    subst (λ v. IsBetween c.args.between c.args.from.now v (set c.args.places.now c.args.k c.encode-word.result)) (sym (c.put_in_pair.ensures ∙ ap (λ v. put_in v (c.args.tip.offset / 2) c.args.index c.encode-word.result) grown))
    (reached_between c.args.between c.args.from.now c.args.to.now c.args.places.now (set c.args.places.now c.args.k c.encode-word.result) c.args.k c.args.tip.offset c.args.index c.encode-word.result c.requires.between c.requires.start c.requires.room c.requires.tip.copy c.requires.index (length-set c.args.places.now c.args.k c.encode-word.result))
