mod KeyBlocks
