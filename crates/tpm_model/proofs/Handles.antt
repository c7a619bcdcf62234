-- Lists of handles that ascend.
pub use Rattle.nv_index.proofs.Handles.{AreHandles, handles_from_test, handles_push, handles_remove, test_from_handles}
