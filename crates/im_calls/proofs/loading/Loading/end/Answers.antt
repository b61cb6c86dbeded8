use Rattle.im_calls.proofs.loading.Loading.end.Goals as goal

pub returns-clause-ended : goal.returns-clause-ended
returns-clause-ended g c = record {
  result = c.finish-ended.result;
  tells = c.tell_end.ensures.told;
  answers = c.finish-ended.ensures.answers;
  loaded = c.finish-ended.ensures.loaded;
  synced = c.finish-ended.ensures.synced;
  stops = c.finish-ended.ensures.stops;
}
